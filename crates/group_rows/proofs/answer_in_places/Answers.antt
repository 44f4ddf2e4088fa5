use Rattle.group_rows.proofs.AnswerInPlaces.{answer_in_places}
use Rattle.group_rows.proofs.answer_in_places.Goals as goal

pub returns : goal.returns
returns c = answer_in_places
