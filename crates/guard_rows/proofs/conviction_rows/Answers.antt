use Rattle.guard_rows.proofs.Convicted.{conviction_rows}
use Rattle.guard_rows.proofs.conviction_rows.Goals as goal

pub returns : goal.returns
returns c = conviction_rows
