use Rattle.following_laws.proofs.Growing as laws
use Rattle.following_laws.proofs.gives_stay.Goals as goal

pub returns : goal.returns
returns c = laws.gives_stay
