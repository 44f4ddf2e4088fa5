use Rattle.safety_laws.proofs.AtTheCut.{at_the_cut}
use Rattle.safety_laws.proofs.at_the_cut.Goals as goal

pub returns : goal.returns
returns c = at_the_cut
