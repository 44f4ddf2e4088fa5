use Rattle.group_rows.proofs.NumberTwice.{number_twice}
use Rattle.group_rows.proofs.number_twice.Goals as goal

pub returns : goal.returns
returns c = number_twice
