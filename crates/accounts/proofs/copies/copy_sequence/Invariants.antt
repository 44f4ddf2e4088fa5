use Rattle.std.proofs.Common.{◌≡◌, map, take}
use Rattle.accounts.specs.Views.{delivery}
use Rattle.accounts.proofs.copies.copy_sequence.Given as goal

abbrev pub invariant-loop-one : goal.invariant-loop-one
invariant-loop-one l = map delivery l.copies.items ≡ map delivery (take l.one-index l.delivered)
