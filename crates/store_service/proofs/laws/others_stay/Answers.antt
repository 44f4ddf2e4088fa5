use Rattle.store_service.proofs.Changes as laws
use Rattle.store_service.proofs.laws.others_stay.Goals as goal

pub returns : goal.returns
returns c = laws.others_stay
