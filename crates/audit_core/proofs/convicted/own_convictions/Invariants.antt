use Rattle.std.proofs.Common.{◌≡◌, map, take}
use Rattle.claim_firsts.specs.Reported.{conviction}
use Rattle.audit_core.specs.Found.{shown, shown_of}
use Rattle.audit_core.proofs.convicted.own_convictions.Given as goal

abbrev pub invariant-loop-one : goal.invariant-loop-one
invariant-loop-one l = map shown l.all.items ≡ map (λ c. shown_of (conviction c)) (take l.one-index l.lent)
