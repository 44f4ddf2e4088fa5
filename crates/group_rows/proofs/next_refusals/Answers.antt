use Rattle.group_rows.proofs.NextRefusals.{next_refusals}
use Rattle.group_rows.proofs.next_refusals.Goals as goal

pub returns : goal.returns
returns c = next_refusals
