use Rattle.following_laws.proofs.Replying as laws
use Rattle.following_laws.proofs.turn_replies.Goals as goal

pub returns : goal.returns
returns c = laws.turn_replies
