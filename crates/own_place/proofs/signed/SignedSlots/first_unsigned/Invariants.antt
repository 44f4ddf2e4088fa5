use Rattle.std.proofs.Common.{ℕ, ◌<◌}
use Rattle.std.specs.Prelude.{IsFalse, not}
use Rattle.own_place.specs.Signed.{has_slot}
use Rattle.own_place.specs.Rows.{slot_in}
use Rattle.own_place.proofs.signed.SignedSlots.first_unsigned.Given as goal

abbrev pub invariant-numbers : goal.invariant-numbers
invariant-numbers l = (k : ℕ) → k < l.number → IsFalse (not (has_slot l.self (slot_in l.row l.view k)))
