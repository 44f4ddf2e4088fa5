use Rattle.std.proofs.Common.{◌≡◌, drop}
use Rattle.restored_place.specs.Walks.{greatest}
use Rattle.restored_place.proofs.said.greatest_rank.Given as goal

abbrev pub invariant-loop-kept : goal.invariant-loop-kept
invariant-loop-kept l = greatest l.number l.most (drop l.kept-index l.signed) ≡ greatest l.number 0 l.signed
