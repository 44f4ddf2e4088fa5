use Rattle.std.proofs.Common.{◌≡◌, drop}
use Rattle.audit_core.specs.Found.{grounds_by}
use Rattle.audit_core.proofs.findings.grounds_in.Given as goal

abbrev pub invariant-loop-ground : goal.invariant-loop-ground
invariant-loop-ground l = grounds_by l.p (drop l.ground-index l.grounds) ≡ grounds_by l.p l.grounds
