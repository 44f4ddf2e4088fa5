use Rattle.safety_laws.proofs.OfTheView.{members_deliver}
use Rattle.safety_laws.proofs.members_deliver.Goals as goal

pub returns : goal.returns
returns c = members_deliver
