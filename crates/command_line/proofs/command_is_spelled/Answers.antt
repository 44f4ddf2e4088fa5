use Rattle.command_line.proofs.Asking.{command_is_spelled}
use Rattle.command_line.proofs.command_is_spelled.Goals as goal

pub returns : goal.returns
returns c = command_is_spelled
