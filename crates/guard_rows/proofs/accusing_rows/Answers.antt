use Rattle.guard_rows.proofs.Accusing.{accusing_rows}
use Rattle.guard_rows.proofs.accusing_rows.Goals as goal

pub returns : goal.returns
returns c = accusing_rows
