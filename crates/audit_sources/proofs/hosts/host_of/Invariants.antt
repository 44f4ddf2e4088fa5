use Rattle.std.proofs.Common.{◌≡◌, drop, map}
use Rattle.std.specs.Prelude.{find}
use Rattle.std.specs.List.{enumerate_from}
use Rattle.journal_steps.specs.Views.{source}
use Rattle.audit_sources.specs.Hosts.{is_host}
use Rattle.audit_sources.proofs.hosts.host_of.Given as goal

abbrev pub invariant-loop-journal : goal.invariant-loop-journal
invariant-loop-journal l = find (is_host l.p) (enumerate_from l.journal (map source (drop l.journal l.sources)))
    ≡ find (is_host l.p) (enumerate_from 0 (map source l.sources))
