use Rattle.std.proofs.Common.{eqb, ◌∙◌}
use Rattle.std.specs.Prelude.{◌&&◌}
use Rattle.schedule_file.specs.Views.{listed}
use Rattle.schedule_header.proofs.Processes.{has-put_once, list_any-next, takes_correct, passes_corrupt}
use Rattle.schedule_header.proofs.head.all_corrupt.Goals as goal
use Rattle.schedule_header.proofs.head.all_corrupt.Goals.{then-listed, else-listed}

pub loop-listed-preserved : goal.loop-listed-preserved
loop-listed-preserved c p =
    let before = c.loop-listed.invariant p in
    rw (list_any-next listed (λ l. (eqb l.process p)
    && l.corrupt) c.args.processes.now c.loop-listed.listed-index c.listed-item.result c.loop-listed-test.true c.listed-item.is)
    (elim c.if-listed.branch [
      | then-listed w ↦ rw (w.corrupt-is, w.insert.ensures, w.if-listed.true)
          (has-put_once c.listed-item.result.process c.loop-listed.corrupt p ∙ takes_correct _ _ _ before)
      | else-listed w ↦ rw (w.corrupt-is, w.if-listed.false) (passes_corrupt (eqb c.listed-item.result.process p) _ _ before)
    ])
