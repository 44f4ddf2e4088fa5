use Rattle.std.proofs.Common.{◌≡◌}
use Rattle.kit_reading.proofs.FrontLines.{Going}
use Rattle.kit_reading.proofs.fronts.read_front.Given as goal

abbrev pub invariant-lines : goal.invariant-lines
invariant-lines g l = record {
  going : Going (g.S.Source.left l.fn.input) (g.S.Source.left l.input) l.fn.lines.ahead l.number l.draft l.lines.ahead;
  steady : g.S.Source.faults l.input ≡ g.S.Source.faults l.fn.input;
}
