use Rattle.std.proofs.Common.{◌≡◌, length}
use Rattle.rp_base.proofs.Written.{IsWritten}
use Rattle.rp_base.proofs.writes.write_all.Given as goal

abbrev pub invariant-pieces : goal.invariant-pieces
invariant-pieces g l = record {
  written : IsWritten (g.K.Sink.written l.fn.output) (g.K.Sink.written l.output) l.bytes l.rest;
  steady : g.K.Sink.faults l.output ≡ g.K.Sink.faults l.fn.output;
}

abbrev pub decreases-pieces : goal.decreases-pieces
decreases-pieces g l = length l.rest
