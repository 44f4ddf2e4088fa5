use Rattle.snapshot_rp.specs.Views.{left_view}
use Rattle.claim_pool.specs.Settings.{as_setting}
use Rattle.kept_images.proofs.Leaving.{one-follows}
use Rattle.kept_images.proofs.left.leave.Goals as goal

pub returns-in-Err : goal.returns-in-Err
returns-in-Err g c = absurd (one-follows (as_setting (g.V.Scheme.valid c.args.scheme.now) c.args.group.now c.args.roster.now) c.loop-one.view
    (left_view c.one-item.result) c.is_left.result c.is_left.ensures c.if-not-is_left.false _ c.in-Err.ensures.refused)
