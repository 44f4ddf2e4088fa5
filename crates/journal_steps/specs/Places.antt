-- What an audit comes across in a journal, by the place of a gate.
use Rattle.std.specs.Prelude.{ℕ, List, length, drop}
use Rattle.audit_defs.specs.Sources.{Step, head_bytes, steps_from}

-- from the gate at this place on, of the journal of this index
abbrev pub steps_at : ℕ → ℕ → List ℕ → List Step
steps_at j place bytes = steps_from (length (drop place bytes)) j place (drop place bytes)

-- from the first gate on
abbrev pub all_steps : ℕ → List ℕ → List Step
all_steps j bytes = steps_at j head_bytes bytes
