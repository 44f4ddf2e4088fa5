use Rattle.safety_laws.proofs.OfTheView.{heard_is_of_view}
use Rattle.safety_laws.proofs.heard_is_of_view.Goals as goal

pub returns : goal.returns
returns c = heard_is_of_view
