use Rattle.std.proofs.Common.{◌≡◌}
use Rattle.store_cli.proofs.Runs.{SoFar}
use Rattle.store_cli.proofs.filtering.run.Given as goal

-- the lines before this one were read, and what becomes of them was written, and no call has failed
abbrev pub invariant-each : goal.invariant-each
invariant-each g l = record {
  so_far : SoFar l.filter (g.S.Source.left l.fn.input) (g.S.Source.left l.input) (g.K.Sink.written l.fn.output) (g.K.Sink.written l.output)
      l.lines.ahead l.number;
  read : g.S.Source.faults l.input ≡ g.S.Source.faults l.fn.input;
  wrote : g.K.Sink.faults l.output ≡ g.K.Sink.faults l.fn.output;
}
