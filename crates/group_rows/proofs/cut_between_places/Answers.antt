use Rattle.group_rows.proofs.CutBetweenPlaces.{cut_between_places}
use Rattle.group_rows.proofs.cut_between_places.Goals as goal

pub returns : goal.returns
returns c = cut_between_places
