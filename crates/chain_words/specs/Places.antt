-- Places of an input, and how the answer to it goes on from one, by what a source had left before and has left now.
use Rattle.std.specs.Prelude.{ℕ, List, ◌++◌, Option}
use Rattle.std.specs.Io.KnownBytes.{Consumes}
pub use Rattle.line_input.specs.Places.{Ends, Leads, Settles}
use Rattle.text_defs.specs.Words.{parts_of}
use Rattle.kit_defs.specs.Kits.{Kit}
use Rattle.group_defs.specs.Views.{View}
use Rattle.chain_text_defs.specs.Chains.{Answer, behind, chain_at, setting_of, view_line}

-- A place after a kit: the number of the next line, the view that was shown last, and the bytes of the next lines that are read already.
pub record Place : Type 0 where
  pub kit : Kit
  pub number : ℕ
  pub view : View
  pub ahead : List ℕ

abbrev pub place : Kit → ℕ → View → List ℕ → Place
place kit number view ahead = record { kit = kit; number = number; view = view; ahead = ahead }

-- the answer from there on to these further bytes
abbrev pub answer_at : Place → List ℕ → Answer
answer_at p more = chain_at (setting_of p.kit) p.number p.view (parts_of (p.ahead ++ more))

-- From one place bytes were read up to another one, which is after one view more.
abbrev pub Shows : Option (List ℕ) → Option (List ℕ) → Place → Place → Type 0
Shows before now p q = Leads (answer_at p) before now (λ rest. behind (view_line q.view) (answer_at q rest))

-- More bytes were read.
abbrev pub ReadsMore : Option (List ℕ) → Option (List ℕ) → Type 0
ReadsMore before now = (read : List ℕ) × Consumes before now read
