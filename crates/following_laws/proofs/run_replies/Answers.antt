use Rattle.following_laws.proofs.Running as laws
use Rattle.following_laws.proofs.run_replies.Goals as goal

pub returns : goal.returns
returns c = laws.run_replies
