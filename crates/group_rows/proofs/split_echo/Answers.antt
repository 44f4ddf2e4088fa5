use Rattle.group_rows.proofs.SplitEcho.{split_echo}
use Rattle.group_rows.proofs.split_echo.Goals as goal

pub returns : goal.returns
returns c = split_echo
