use Rattle.store_service.proofs.OfKits as laws
use Rattle.store_service.proofs.laws.lines_are_the_kits.Goals as goal

pub returns : goal.returns
returns c = laws.lines_are_the_kits
