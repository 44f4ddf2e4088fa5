-- The journal that hosts a process.
use Rattle.std.specs.Prelude.{ℕ, Bool}
use Rattle.byte_defs.specs.Members.{has}
use Rattle.journal_defs.specs.Journals.{batch_limit}
use Rattle.audit_defs.specs.Sources.{Source}
use Rattle.audit_sources.specs.declared.hosts.HostedBy.{HostedBy}

-- the journal hosts the process
abbrev pub is_host : ℕ → ℕ × Source → Bool
is_host p host = has host.1.hosted p

-- what is kept of it
abbrev pub hosted_by : ℕ × Source → HostedBy
hosted_by host = record { journal = host.0; batch_limit = batch_limit host.1.version }
