use Rattle.group_rows.proofs.ThreePlaces.{three_places}
use Rattle.group_rows.proofs.three_places.Goals as goal

pub returns : goal.returns
returns c = three_places
