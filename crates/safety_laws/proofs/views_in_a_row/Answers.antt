use Rattle.safety_laws.proofs.ViewsInARow.{views_in_a_row}
use Rattle.safety_laws.proofs.views_in_a_row.Goals as goal

pub returns : goal.returns
returns c = views_in_a_row
