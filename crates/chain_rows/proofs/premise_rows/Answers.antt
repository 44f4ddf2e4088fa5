use Rattle.chain_rows.proofs.Premises.{premise_rows}
use Rattle.chain_rows.proofs.premise_rows.Goals as goal

pub returns : goal.returns
returns c = premise_rows
