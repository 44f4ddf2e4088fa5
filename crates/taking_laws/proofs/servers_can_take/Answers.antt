use Rattle.taking_laws.proofs.Taking as laws
use Rattle.taking_laws.proofs.servers_can_take.Goals as goal

pub returns : goal.returns
returns c = laws.servers_can_take
