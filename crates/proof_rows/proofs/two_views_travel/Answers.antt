use Rattle.proof_rows.proofs.Rows.{two_views_travel}
use Rattle.proof_rows.proofs.two_views_travel.Goals as goal

pub returns : goal.returns
returns c = two_views_travel
