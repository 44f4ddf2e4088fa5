use Rattle.group_rows.proofs.Nobody.{nobody_is_correct}
use Rattle.group_rows.proofs.nobody_is_correct.Goals as goal

pub returns : goal.returns
returns c = nobody_is_correct
