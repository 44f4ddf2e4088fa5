use Rattle.std.proofs.Common.{arith, sym}
use Rattle.std.proofs.Math.Nat.{max-eq_left, max-eq_right}
use Rattle.node_input.specs.Reads.{most_line_bytes}
use Rattle.node_input.proofs.lines.most_of_line.Goals as goal

pub returns-then-longest-gt-MOST_LINE : goal.returns-then-longest-gt-MOST_LINE
unfolding most_line_bytes
returns-then-longest-gt-MOST_LINE c = sym (max-eq_right (omega (arith, c.if-longest-gt-MOST_LINE.true)))

pub returns-else-longest-gt-MOST_LINE : goal.returns-else-longest-gt-MOST_LINE
unfolding most_line_bytes
returns-else-longest-gt-MOST_LINE c = sym (max-eq_left (omega (arith, c.if-longest-gt-MOST_LINE.false)))
