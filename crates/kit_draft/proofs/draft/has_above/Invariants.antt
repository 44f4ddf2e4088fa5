use Rattle.std.proofs.Common.{◌≡◌, nat_lt, length}
use Rattle.std.specs.List.{list_any}
use Rattle.kit_draft.proofs.draft.has_above.Given as goal

abbrev pub invariant-rest : goal.invariant-rest
invariant-rest l = list_any (λ q. nat_lt l.p q) l.rest ≡ list_any (λ q. nat_lt l.p q) l.fn.set

abbrev pub decreases-rest : goal.decreases-rest
decreases-rest l = length l.rest
