use Rattle.group_rows.proofs.DeputyAdopts.{deputy_adopts}
use Rattle.group_rows.proofs.deputy_adopts.Goals as goal

pub returns : goal.returns
returns c = deputy_adopts
