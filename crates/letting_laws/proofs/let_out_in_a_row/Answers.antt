use Rattle.letting_laws.proofs.Joined.{let_out_in_a_row}
use Rattle.letting_laws.proofs.let_out_in_a_row.Goals as goal

pub returns : goal.returns
returns c = let_out_in_a_row
