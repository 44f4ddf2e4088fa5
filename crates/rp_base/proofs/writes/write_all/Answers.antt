use Rattle.std.proofs.Common.{◌∙◌}
use Rattle.std.proofs.lemmas.Result.{err_from_is_err_and}
use Rattle.rp_base.proofs.Written.{written_more, part_written}
use Rattle.rp_base.proofs.writes.write_all.Goals as goal

pub returns-in_err-n-clause-part : goal.returns-in_err-n-clause-part
returns-in_err-n-clause-part g c =
    let p = err_from_is_err_and c.from_residual.result c.from_residual.ensures.1 in
    rw p.1 (part_written _ (g.K.Sink.written c.pieces.output) _ _ c.pieces.rest.now c.pieces.invariant.written c.in_err-n.ensures.bytes)

pub pieces-preserved : goal.pieces-preserved
pieces-preserved g c = record {
  written = written_more _ (g.K.Sink.written c.pieces.output) _ _ c.pieces.rest.now _ c.in_ok-n.n c.pieces.invariant.written
      c.in_ok-n.ensures.bytes c.split_at.ensures.back;
  steady = c.in_ok-n.ensures.cause.steady ∙ c.pieces.invariant.steady;
}
