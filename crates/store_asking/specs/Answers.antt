-- What a run of `ask` has read and written: by what a source had left before and has left now, what a sink held before and holds now, and
-- the counts of the sink's faults before and now. Of a stream that does not say what it holds, nothing is said by it.
use Rattle.std.specs.Prelude.{◌≡◌, ℕ, List, Option, IsSomeAnd, IsOk, IsErr, Err}
use Rattle.std.specs.Io.KnownBytes.{Appends}
use Rattle.rp_base.specs.Streams.{AppendsPrefix, WritesLine}
use Rattle.line_input.specs.Places.{Ends, Settles}
use Rattle.kit_defs.specs.KitReading.{KitFault}
use Rattle.store_defs.specs.Asking.{ask_output, asked}
use Rattle.store_asking.specs.Stops.{stop_text}

-- The input was read to its end, its status is 0, and its answer was written and nothing else.
pub record Answered (payload : List ℕ) (before now old new : Option (List ℕ)) : Type 0 where
  pub text : List ℕ
  pub all : Ends (ask_output payload) before now (text, 0)
  pub wrote : Appends old new text

-- and of its answer a prefix was written and nothing else
pub record AnsweredInPart (payload : List ℕ) (before now old new : Option (List ℕ)) : Type 0 where
  pub text : List ℕ
  pub all : Ends (ask_output payload) before now (text, 0)
  pub part : AppendsPrefix old new text

-- What was read asks nothing: it has a fault, whatever comes after it, or as the input ends with it. The line that says so was written and
-- nothing else, or a prefix of it where the sink failed.
pub record Refused (before now old new : Option (List ℕ)) (faults faults_now : ℕ) : Type 0 where
  pub fault : KitFault
  pub is : Settles asked before now (Err fault)
  pub said : WritesLine (stop_text fault) old new faults faults_now

-- the source says what it has left, and there is a question in it
abbrev pub Asks : Option (List ℕ) → Type 0
Asks left = IsSomeAnd left (λ bytes. IsOk (asked bytes))

-- it says what it has left, and that has a fault
abbrev pub AsksNothing : Option (List ℕ) → Type 0
AsksNothing left = IsSomeAnd left (λ bytes. IsErr (asked bytes))
