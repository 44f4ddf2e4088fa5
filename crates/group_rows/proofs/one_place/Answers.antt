use Rattle.group_rows.proofs.OnePlace.{one_place}
use Rattle.group_rows.proofs.one_place.Goals as goal

pub returns : goal.returns
returns c = one_place
