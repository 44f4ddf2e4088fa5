use Rattle.group_rows.proofs.SplitInit.{split_init}
use Rattle.group_rows.proofs.split_init.Goals as goal

pub returns : goal.returns
returns c = split_init
