use Rattle.snapshot_laws.proofs.Versions.{written_is_second}
use Rattle.snapshot_laws.proofs.written_is_second.Goals as goal

pub returns : goal.returns
returns c = written_is_second
