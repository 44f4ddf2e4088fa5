use Rattle.std.proofs.Common.{◌≡◌, [], drop}
use Rattle.restored_place.specs.Walks.{with_slots}
use Rattle.restored_place.proofs.said.slots_in.Given as goal

abbrev pub invariant-loop-kept : goal.invariant-loop-kept
invariant-loop-kept l = with_slots l.number l.slots.slots (drop l.kept-index l.signed) ≡ with_slots l.number [] l.signed
