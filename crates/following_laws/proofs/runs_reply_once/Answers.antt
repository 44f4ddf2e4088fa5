use Rattle.following_laws.proofs.Running as laws
use Rattle.following_laws.proofs.runs_reply_once.Goals as goal

pub returns : goal.returns
returns c = laws.runs_reply_once
