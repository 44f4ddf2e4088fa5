use Rattle.std.proofs.Common.{ap, ◌∙◌}
use Rattle.rp_base.specs.Pids.{put_once}
use Rattle.kit_file.proofs.Hosted.{put_next}
use Rattle.kit_file.proofs.kit.Kit.hosted.Goals as goal

pub loop-host-preserved : goal.loop-host-preserved
loop-host-preserved c =
    c.insert.ensures
    ∙ ap (λ all. put_once c.host-item.result.process all) c.loop-host.invariant
    ∙ put_next c.deref-host-items.result.now c.loop-host.host-index c.host-item.result
    (rw c.deref-host-items.ensures.value c.self-inside.invariant) c.loop-host-test.true c.host-item.is
