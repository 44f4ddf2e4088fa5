use Rattle.following_laws.proofs.Running as laws
use Rattle.following_laws.proofs.run_holds.Goals as goal

pub returns : goal.returns
returns c = laws.run_holds
