use Rattle.following_laws.proofs.Offering as laws
use Rattle.following_laws.proofs.offer_follows.Goals as goal

pub returns : goal.returns
returns c = laws.offer_follows
