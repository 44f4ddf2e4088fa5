use Rattle.std.proofs.Common.{Bool, eqb, ap, sym, ◌∙◌}
use Rattle.std.specs.Prelude.{◌||◌}
use Rattle.schedule_file.specs.Views.{listed}
use Rattle.schedule_header.proofs.Processes.{has-put_once, list_any-next}
use Rattle.schedule_header.proofs.head.all_listed.Goals as goal

pub loop-listed-preserved : goal.loop-listed-preserved
loop-listed-preserved c p =
    rw c.insert.ensures
    (has-put_once c.listed-item.result.process c.loop-listed.all p
    ∙ ap (λ (b : Bool). eqb c.listed-item.result.process p || b) (c.loop-listed.invariant p)
    ∙ sym (list_any-next listed (λ l. eqb l.process p) c.args.processes.now c.loop-listed.listed-index c.listed-item.result
    c.loop-listed-test.true c.listed-item.is))
