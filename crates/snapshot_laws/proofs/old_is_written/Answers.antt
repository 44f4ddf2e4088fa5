use Rattle.snapshot_laws.proofs.Versions.{old_is_written}
use Rattle.snapshot_laws.proofs.old_is_written.Goals as goal

pub returns : goal.returns
returns c = old_is_written
