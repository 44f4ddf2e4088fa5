use Rattle.std.proofs.Common.{◌≢◌, AllPairs, take}
use Rattle.view_table.proofs.view.are_distinct.Given as goal

abbrev pub invariant-loop-i : goal.invariant-loop-i
invariant-loop-i l = AllPairs (λ m n. m ≢ n) (take l.i l.members)
