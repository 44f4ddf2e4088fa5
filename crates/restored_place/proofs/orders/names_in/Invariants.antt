use Rattle.std.proofs.Common.{◌≡◌, map, take}
use Rattle.std.specs.Prelude.{min}
use Rattle.std.specs.List.{sum_by}
use Rattle.group_defs.specs.Certified.{named}
use Rattle.restored_place.proofs.orders.names_in.Given as goal

abbrev pub invariant-loop-member : goal.invariant-loop-member
invariant-loop-member l = l.names.items ≡ map (λ m. min (sum_by (λ b. named m b) l.orders) 65535) (take l.member-index l.member-items)
