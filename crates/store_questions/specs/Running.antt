-- What a run has read and written: by what a source had left before and has left now, and what a sink held before and holds now. Of a stream
-- that does not say what it holds, nothing is said by it.
-- Names here (* for this crate alone):
--   a whole run: Made*, MadeInPart*, Refused*
--   inputs that say what they hold: IsMade*, IsNotMade*
use Rattle.std.specs.Prelude.{ℕ, List, Option, IsSomeAnd, IsOk, IsErr, Ok, Err}
use Rattle.std.specs.Io.KnownBytes.{Appends, Consumes, IsAtEnd}
use Rattle.rp_base.specs.Streams.{AppendsPrefix, WritesLine}
use Rattle.line_input.specs.Places.{Ends, Settles}
use Rattle.kit_defs.specs.KitReading.{KitFault}
use Rattle.store_question_defs.specs.Inputs.{ask_input}
use Rattle.store_question_defs.specs.Laws.{AsksWithLines}
use Rattle.store_questions.specs.Stops.{stop_text}

-- The input was read to its end; the text that asks was written, and nothing else; and `ask` reads the question of the input's lines in it.
pub record Made (payload : List ℕ) (before now old new : Option (List ℕ)) : Type 0 where
  pub input : List ℕ
  pub taken : Consumes before now input
  pub over : IsAtEnd now
  pub text : List ℕ
  pub asks : AsksWithLines payload input text
  pub wrote : Appends old new text

-- and of the text a prefix was written and nothing else
pub record MadeInPart (payload : List ℕ) (before now old new : Option (List ℕ)) : Type 0 where
  pub text : List ℕ
  pub all : Ends (ask_input payload) before now (Ok text)
  pub part : AppendsPrefix old new text

-- What was read has this fault, whatever comes after it, or as the input ends with it; and the line that says so was written to standard error,
-- or this failed in the midst of it: by the count of its faults before and now.
pub record Refused (payload : List ℕ) (before now errors errors_now : Option (List ℕ)) (faults faults_now : ℕ) : Type 0 where
  pub fault : KitFault
  pub is : Settles (ask_input payload) before now (Err fault)
  pub said : WritesLine (stop_text fault) errors errors_now faults faults_now

-- the input has no fault
abbrev pub IsMade : List ℕ → Option (List ℕ) → Type 0
IsMade payload left = IsSomeAnd left (λ input. IsOk (ask_input payload input))

-- the input has one
abbrev pub IsNotMade : List ℕ → Option (List ℕ) → Type 0
IsNotMade payload left = IsSomeAnd left (λ input. IsErr (ask_input payload input))
