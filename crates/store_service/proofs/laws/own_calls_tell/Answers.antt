use Rattle.store_service.proofs.Changes as laws
use Rattle.store_service.proofs.laws.own_calls_tell.Goals as goal

pub returns : goal.returns
returns c = laws.own_calls_tell
