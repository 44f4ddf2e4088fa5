use Rattle.serve_laws.proofs.Served as laws
use Rattle.serve_laws.proofs.stores_hold.Goals as goal

pub returns : goal.returns
returns c = laws.stores_hold
