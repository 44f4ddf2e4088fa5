use Rattle.group_rows.proofs.SpentKey.{spent_key}
use Rattle.group_rows.proofs.spent_key.Goals as goal

pub returns : goal.returns
returns c = spent_key
