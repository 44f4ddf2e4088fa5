use Rattle.std.proofs.Common.{◌≡◌, length, map}
use Rattle.std.specs.Prelude.{find}
use Rattle.audit_defs.specs.Players.{is_missing}
use Rattle.journal_steps.specs.Views.{source}
use Rattle.audit_sources.proofs.hosts.first_missing.Given as goal

abbrev pub invariant-listed : goal.invariant-listed
invariant-listed l = find (is_missing (map source l.sources)) l.left ≡ find (is_missing (map source l.sources)) l.fn.listed

abbrev pub decreases-listed : goal.decreases-listed
decreases-listed l = length l.left
