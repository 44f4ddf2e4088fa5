use Rattle.proof_rows.proofs.Rows.{starts_are_read}
use Rattle.proof_rows.proofs.starts_are_read.Goals as goal

pub returns : goal.returns
returns c = starts_are_read
