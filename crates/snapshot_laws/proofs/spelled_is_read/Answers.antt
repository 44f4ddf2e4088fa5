use Rattle.snapshot_laws.proofs.Images.{spelled_is_read}
use Rattle.snapshot_laws.proofs.spelled_is_read.Goals as goal

pub returns : goal.returns
returns c = spelled_is_read
