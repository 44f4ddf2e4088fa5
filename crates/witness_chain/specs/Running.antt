-- What a run of `witness chain` has read and written, in the words of `chain_words` (Running): of the answer of a chain that may begin at the line
-- of a view. Of a stream that does not tell what it holds, nothing is said by it.
use Rattle.std.specs.Prelude.{◌≡◌, ℕ, List, Option, Ok}
use Rattle.input_defs.specs.Fronts.{Front, front_of}
use Rattle.chain_words.specs.Running.{AnsweredBy, FaultyBy, HasStatusBy, RefusedBy, ShownAndSaysBy, SomeShownBy}
use Rattle.proof_defs.specs.Starts.{started_chain_of}
use Rattle.proof_laws.specs.Starts.{ReportsViewsFrom}
use Rattle.witness_chain.specs.Starting.{InPartBy, LinesBy}

-- The input was read to its end, its status is 0, and its answer was written and nothing else.
abbrev pub Answered : Option (List ℕ) → Option (List ℕ) → Option (List ℕ) → Option (List ℕ) → Type 0
Answered before now old new = AnsweredBy started_chain_of before now old new

-- Whole lines of views were written and nothing else: none, those of what was read up to a place, or those before a fault that it has.
abbrev pub LinesWritten : Option (List ℕ) → Option (List ℕ) → Option (List ℕ) → Option (List ℕ) → Type 0
LinesWritten before now old new = LinesBy started_chain_of before now old new

-- Whole lines of views were written and nothing else: none, or those of what was read up to a place.
abbrev pub SomeShown : Option (List ℕ) → Option (List ℕ) → Option (List ℕ) → Option (List ℕ) → Type 0
SomeShown before now old new = SomeShownBy started_chain_of before now old new

-- and then this line, or a prefix of it where the sink failed
abbrev pub ShownAndSays : List ℕ → Option (List ℕ) → Option (List ℕ) → Option (List ℕ) → Option (List ℕ) → ℕ → ℕ → Type 0
ShownAndSays line before now old new faults faults_now = ShownAndSaysBy started_chain_of line before now old new faults faults_now

-- A prefix of the answer was written and nothing else.
abbrev pub InPart : Option (List ℕ) → Option (List ℕ) → Option (List ℕ) → Option (List ℕ) → Type 0
InPart before now old new = InPartBy started_chain_of before now old new

-- What was read has a fault, which these words tell, and the lines of the views before it were written and nothing else.
abbrev pub Faulty : List (List ℕ) → Option (List ℕ) → Option (List ℕ) → Option (List ℕ) → Option (List ℕ) → Type 0
Faulty words before now old new = FaultyBy started_chain_of words before now old new

-- and then the line that says so, or a prefix of it where the sink failed
abbrev pub Refused : Option (List ℕ) → Option (List ℕ) → Option (List ℕ) → Option (List ℕ) → ℕ → ℕ → Type 0
Refused before now old new faults faults_now = RefusedBy started_chain_of before now old new faults faults_now

-- the source tells what it has left, and the answer to it has this status
abbrev pub HasStatus : ℕ → Option (List ℕ) → Type 0
HasStatus status left = HasStatusBy started_chain_of status left

-- what the answer to bytes tells, where they begin with a kit
abbrev pub AnswerReportsFrom : List ℕ → Type 0
AnswerReportsFrom bytes = (front : Front) → front_of bytes ≡ Ok front → ReportsViewsFrom bytes front
