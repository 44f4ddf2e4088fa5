use Rattle.std.proofs.Common.{◌≡◌, drop}
use Rattle.byte_defs.specs.Orders.{numbers_below}
use Rattle.sent_claims.proofs.order.is_below.Given as goal

abbrev pub invariant-numbers : goal.invariant-numbers
invariant-numbers l = numbers_below (drop l.i l.a) (drop l.i l.b) ≡ numbers_below l.a l.b
