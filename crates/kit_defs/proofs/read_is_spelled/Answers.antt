use Rattle.kit_defs.proofs.ReadKits.{read_is_spelled}
use Rattle.kit_defs.proofs.read_is_spelled.Goals as goal

pub returns : goal.returns
returns c = read_is_spelled
