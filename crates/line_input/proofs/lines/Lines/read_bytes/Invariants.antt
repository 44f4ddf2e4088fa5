use Rattle.std.proofs.Common.{◌≡◌, ◌++◌, ◌-◌, ◌≤◌, length}
use Rattle.line_input.specs.Taking.{ReadOn}
use Rattle.line_input.proofs.lines.Lines.read_bytes.Given as goal

-- what was taken so far and is ahead has come, it is not more than was asked for, and no call has failed
abbrev pub invariant-pieces : goal.invariant-pieces
invariant-pieces g l = record {
  read : ReadOn (g.S.Source.left l.fn.input) (g.S.Source.left l.input) l.fn.self.ahead (l.bytes.items ++ l.self.ahead);
  few : length l.bytes.items ≤ l.count;
  steady : g.S.Source.faults l.input ≡ g.S.Source.faults l.fn.input;
}

-- how many are still to come
abbrev pub decreases-pieces : goal.decreases-pieces
decreases-pieces g l = l.count - length l.bytes.items
