use Rattle.chain_rows.proofs.Reported.{reported_rows}
use Rattle.chain_rows.proofs.reported_rows.Goals as goal

pub returns : goal.returns
returns c = reported_rows
