use Rattle.store_service.proofs.OfKits as laws
use Rattle.store_service.proofs.laws.servers_are_the_kits.Goals as goal

pub returns : goal.returns
returns c = laws.servers_are_the_kits
