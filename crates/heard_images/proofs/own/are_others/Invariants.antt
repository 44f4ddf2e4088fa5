use Rattle.std.proofs.Common.{◌≡◌, [], drop}
use Rattle.heard_images.specs.Signed.{are_others}
use Rattle.heard_images.proofs.own.are_others.Given as goal

abbrev pub invariant-loop-kept : goal.invariant-loop-kept
invariant-loop-kept l = are_others l.slots.slots (drop l.kept-index l.signed) ≡ are_others [] l.signed
