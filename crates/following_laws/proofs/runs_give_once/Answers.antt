use Rattle.following_laws.proofs.Running as laws
use Rattle.following_laws.proofs.runs_give_once.Goals as goal

pub returns : goal.returns
returns c = laws.runs_give_once
