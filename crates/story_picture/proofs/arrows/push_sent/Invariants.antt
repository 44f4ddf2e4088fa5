use Rattle.std.proofs.Common.{◌≡◌, ◌++◌, replicate}
use Rattle.story_picture.proofs.arrows.push_sent.Given as goal

abbrev pub invariant-loop-i : goal.invariant-loop-i
invariant-loop-i l = l.rows.items ≡ l.fn.rows.items ++ replicate l.i l.k
