use Rattle.snapshot_rp.specs.Views.{perceived}
use Rattle.kept_images.specs.Tests.{is_perceived}
use Rattle.kept_images.proofs.Entries.{perceived-so, so-perceived}
use Rattle.kept_images.proofs.Tested.{each-tested}
use Rattle.kept_images.proofs.perceived.are_perceived.Goals as goal

pub returns : goal.returns
returns c = each-tested perceived (is_perceived c.args.keyed c.args.view.now) _ c.args.perceived.now c.each_is_perceived.result
    (perceived-so c.args.keyed c.args.view.now) (so-perceived c.args.keyed c.args.view.now) c.each_is_perceived.ensures
