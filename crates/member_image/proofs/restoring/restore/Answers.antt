use Rattle.snapshot_rp.specs.Views.{image as image_as}
use Rattle.member_image.proofs.restoring.restore.Goals as goal

pub returns-in-Ok-clause-is : goal.returns-in-Ok-clause-is
returns-in-Ok-clause-is g c s judges = c.in-Ok.ensures.is s 1 (image_as c.args.image) (c.in_ok-restored.ensures.is s judges)
