use Rattle.group_rows.proofs.LimitTwo.{limit_two}
use Rattle.group_rows.proofs.limit_two.Goals as goal

pub returns : goal.returns
returns c = limit_two
