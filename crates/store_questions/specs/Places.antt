-- A place among the lines after a kit, and what is gathered from there on, whatever bytes come.
-- Names here (* for this crate alone):
--   Place*, place*, with_lines*, gather_at*, made_by*
use Rattle.std.specs.Prelude.{ℕ, List, ◌++◌, Result, Ok, Err}
use Rattle.text_defs.specs.Words.{parts_of}
use Rattle.kit_defs.specs.Kits.{Kit}
use Rattle.kit_defs.specs.KitReading.{KitFault}
use Rattle.store_question_defs.specs.Lines.{Lines}
use Rattle.store_question_defs.specs.Inputs.{lines_from}
use Rattle.store_questions.specs.Gathering.{PlainGathered, after_lines, gathered_text}

-- the number of the next line, what was gathered so far, and the bytes of the next lines that are read already
pub record Place : Type 0 where
  pub kit : Kit
  pub payload : List ℕ
  pub number : ℕ
  pub so_far : PlainGathered
  pub ahead : List ℕ

abbrev pub place : Kit → List ℕ → ℕ → PlainGathered → List ℕ → Place
place kit payload number so_far ahead = record { kit = kit; payload = payload; number = number; so_far = so_far; ahead = ahead }

-- with these lines, where they are such
abbrev pub with_lines : Kit → List ℕ → PlainGathered → Result Lines KitFault → Result PlainGathered KitFault
with_lines kit payload g (Ok lines) = Ok (after_lines kit payload g lines)
with_lines kit payload g (Err fault) = Err fault

-- what is gathered with the lines from there on
abbrev pub gather_at : Place → List ℕ → Result PlainGathered KitFault
gather_at p more = with_lines p.kit p.payload p.so_far (lines_from p.payload p.number p.so_far.left (parts_of (p.ahead ++ more)))

-- the text of what was gathered
abbrev pub made_by : Kit → Result PlainGathered KitFault → Result (List ℕ) KitFault
made_by kit (Ok g) = Ok (gathered_text kit g)
made_by kit (Err fault) = Err fault
