use Rattle.std.proofs.Common.{ℕ}
use Rattle.member_state.proofs.Liars.{Rest}
use Rattle.member_state.proofs.state.liars_in.Given as goal

abbrev pub invariant-pairs : goal.invariant-pairs
invariant-pairs l = Rest l.fn.conflicts.pairs l.left l.liars

abbrev pub decreases-pairs : goal.decreases-pairs
decreases-pairs l = l.left
