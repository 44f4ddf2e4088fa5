use Rattle.std.proofs.Common.{◌≡◌, ◌+◌, ◌-◌, ◌≤◌, length}
use Rattle.line_input.specs.Taking.{ReadOn}
use Rattle.line_input.proofs.lines.Lines.read_on.Given as goal

-- what was taken so far is ahead, no more of it was looked at, and no call has failed
abbrev pub invariant-pieces : goal.invariant-pieces
invariant-pieces g l = record {
  read : ReadOn (g.S.Source.left l.fn.input) (g.S.Source.left l.input) l.fn.self.ahead l.self.ahead;
  looked : l.looked ≤ length l.self.ahead;
  steady : g.S.Source.faults l.input ≡ g.S.Source.faults l.fn.input;
}

-- what the limit leaves
abbrev pub decreases-pieces : goal.decreases-pieces
decreases-pieces g l = l.most + 1 - length l.self.ahead
