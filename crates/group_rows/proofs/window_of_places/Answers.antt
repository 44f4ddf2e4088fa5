use Rattle.group_rows.proofs.WindowOfPlaces.{window_of_places}
use Rattle.group_rows.proofs.window_of_places.Goals as goal

pub returns : goal.returns
returns c = window_of_places
