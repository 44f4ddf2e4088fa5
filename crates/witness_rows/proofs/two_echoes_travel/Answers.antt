use Rattle.witness_rows.proofs.Rows.{two_echoes_travel}
use Rattle.witness_rows.proofs.two_echoes_travel.Goals as goal

pub returns : goal.returns
returns c = two_echoes_travel
