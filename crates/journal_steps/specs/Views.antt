-- What is read of a journal, as plain data.
use Rattle.std.specs.Prelude.{ℕ, List, drop}
use Rattle.audit_defs.specs.Sources as plain
use Rattle.audit_defs.specs.Sources.{Step, head_bytes}
use Rattle.journal_steps.specs.declared.source.Source.{Source}
use Rattle.journal_steps.specs.declared.steps.Steps.{Steps}
use Rattle.journal_steps.specs.Places.{steps_at}

abbrev pub source : Source → plain.Source
source s = record { version = s.version; hosted = s.hosted; records = drop head_bytes s.bytes.now }

-- those that are left, of the journal of this index
abbrev pub steps_left : ℕ → Steps → List Step
steps_left j s = steps_at j s.gate s.bytes.now
