use Rattle.std.proofs.Common.{map, refl}
use Rattle.snapshot_rp.specs.Views.{left_view}
use Rattle.claim_pool.specs.Settings.{as_setting}
use Rattle.kept_images.specs.Settings.{setting}
use Rattle.kept_images.proofs.Leaving.{leaves-all}
use Rattle.kept_images.proofs.left.view_behind.Goals as goal

pub returns : goal.returns
returns g c =
    let valid = g.V.Scheme.valid c.args.scheme.now in
    leaves-all (as_setting valid c.args.group.now c.args.roster.now) (setting valid c.args.group.now c.args.roster.now c.args.genesis) refl
    (λ x. refl) c.args.genesis (map left_view c.args.left.now) c.leave.result c.leave.ensures
