use Rattle.safety_laws.proofs.KindsSigned.{signs_its_kinds}
use Rattle.safety_laws.proofs.signs_its_kinds.Goals as goal

pub returns : goal.returns
returns c = signs_its_kinds
