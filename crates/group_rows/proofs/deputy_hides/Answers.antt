use Rattle.group_rows.proofs.DeputyHides.{deputy_hides}
use Rattle.group_rows.proofs.deputy_hides.Goals as goal

pub returns : goal.returns
returns c = deputy_hides
