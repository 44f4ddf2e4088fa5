use Rattle.std.proofs.Common.{◌≡◌, ◌-◌, length}
use Rattle.interop_lines.specs.Reading.{ReadOn}
use Rattle.interop_lines.proofs.line_reader.read_on.Given as goal

-- what was taken so far is ahead, and no call has failed
abbrev pub invariant-pieces : goal.invariant-pieces
invariant-pieces g l = record {
  read : ReadOn (g.S.Source.left l.fn.input) (g.S.Source.left l.input) l.fn.ahead l.ahead;
  steady : g.S.Source.faults l.input ≡ g.S.Source.faults l.fn.input;
}

-- what the limit leaves
abbrev pub decreases-pieces : goal.decreases-pieces
decreases-pieces g l = 1000001 - length l.ahead
