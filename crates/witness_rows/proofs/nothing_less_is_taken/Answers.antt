use Rattle.witness_rows.proofs.Rows.{nothing_less_is_taken}
use Rattle.witness_rows.proofs.nothing_less_is_taken.Goals as goal

pub returns : goal.returns
returns c = nothing_less_is_taken
