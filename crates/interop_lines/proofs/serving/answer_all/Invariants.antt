use Rattle.std.proofs.Common.{◌≡◌, ℕ, suc}
use Rattle.interop_lines.specs.Serving.{HasServed}
use Rattle.interop_lines.proofs.serving.answer_all.Given as goal

-- the lines before this one were answered, and no call has failed
abbrev pub invariant-loop-number : goal.invariant-loop-number
invariant-loop-number g l = record {
  served : (n : ℕ) × (l.number ≡ suc n)
      × HasServed (g.P.Program.comes_to l.fn.program) n l.ahead (g.S.Source.left l.fn.input) (g.S.Source.left l.input) (g.K.Sink.written l.fn.output)
      (g.K.Sink.written l.output);
  read : g.S.Source.faults l.input ≡ g.S.Source.faults l.fn.input;
  wrote : g.K.Sink.faults l.output ≡ g.K.Sink.faults l.fn.output;
}
