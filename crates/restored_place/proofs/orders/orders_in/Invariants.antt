use Rattle.std.proofs.Common.{◌≡◌, [], drop}
use Rattle.restored_place.specs.Walks.{with_orders}
use Rattle.restored_place.proofs.orders.orders_in.Given as goal

abbrev pub invariant-loop-kept : goal.invariant-loop-kept
invariant-loop-kept l = with_orders l.number l.orders.items (drop l.kept-index l.signed) ≡ with_orders l.number [] l.signed
