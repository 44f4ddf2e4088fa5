use Rattle.schedule_laws.proofs.Wholes.{read_is_spelled}
use Rattle.schedule_laws.proofs.read_is_spelled.Goals as goal

pub returns : goal.returns
returns c = read_is_spelled
