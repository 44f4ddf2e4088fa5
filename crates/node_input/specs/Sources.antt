-- An input some of whose bytes were read ahead of the lines that were taken.
use Rattle.std.specs.Prelude.{◌≡◌, ℕ, List, Option}
use Rattle.std.specs.Io.KnownBytes.{Consumes}
use Rattle.node_traces.specs.Outside.{SourceSeen}

-- The input is seen so: where it says what it had left, that which no line has taken is what was read ahead, and after it what the
-- source has left now.
pub record IsSeen (k : SourceSeen) (ahead : List ℕ) (left : Option (List ℕ)) (faults : ℕ) : Type 0 where
  pub bytes : Consumes k.left left ahead
  pub count : k.faults ≡ faults

-- it is seen in a way that P holds of
pub record SeenAs (P : SourceSeen → Type 0) (ahead : List ℕ) (left : Option (List ℕ)) (faults : ℕ) : Type 0 where
  pub source : SourceSeen
  pub seen : IsSeen source ahead left faults
  pub holds : P source
