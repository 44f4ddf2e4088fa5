use Rattle.std.proofs.Common.{◌≡◌, ◌++◌, drop, take}
use Rattle.image_parts.proofs.claims.claims_of.Given as goal

abbrev pub invariant-loop-one : goal.invariant-loop-one
invariant-loop-one l = l.list.claims ≡ take l.one-index l.kept
