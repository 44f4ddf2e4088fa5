use Rattle.snapshot_laws.proofs.Images.{read_is_spelled}
use Rattle.snapshot_laws.proofs.read_is_spelled.Goals as goal

pub returns : goal.returns
returns c = read_is_spelled
