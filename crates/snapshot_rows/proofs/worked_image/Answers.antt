use Rattle.snapshot_rows.proofs.Worked.{worked_image}
use Rattle.snapshot_rows.proofs.worked_image.Goals as goal

pub returns : goal.returns
returns c = worked_image
