use Rattle.std.proofs.Common.{ap, ◌∙◌}
use Rattle.rp_base.specs.Pids.{put_once}
use Rattle.rp_base.proofs.Rosters.{put_next}
use Rattle.rp_base.proofs.roster.Roster.processes.Goals as goal

pub loop-listed-preserved : goal.loop-listed-preserved
loop-listed-preserved c =
    c.insert.ensures
    ∙ ap (λ all. put_once c.listed-item.result.process all) c.loop-listed.invariant
    ∙ put_next c.deref-listed-items.result.now c.loop-listed.listed-index c.listed-item.result
    (rw c.deref-listed-items.ensures.value c.self.invariant) c.loop-listed-test.true c.listed-item.is
