use Rattle.chain_rows.proofs.Whole.{whole_row}
use Rattle.chain_rows.proofs.whole_row.Goals as goal

pub returns : goal.returns
returns c = whole_row
