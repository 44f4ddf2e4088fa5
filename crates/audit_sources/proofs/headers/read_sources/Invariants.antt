use Rattle.std.proofs.Common.{◌≡◌, drop, map}
use Rattle.audit_defs.specs.Audits.{sources_of}
use Rattle.journal_steps.specs.Views.{source}
use Rattle.audit_sources.proofs.Left.{read-on}
use Rattle.audit_sources.proofs.headers.read_sources.Given as goal

abbrev pub invariant-loop-journal : goal.invariant-loop-journal
invariant-loop-journal l = sources_of l.kit l.journals ≡ read-on l.kit l.journal (map source l.all.items) (drop l.journal l.journals)
