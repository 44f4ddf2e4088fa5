use Rattle.length_laws.proofs.Spelled.{statements_are_short}
use Rattle.length_laws.proofs.statements_are_short.Goals as goal

pub returns : goal.returns
returns c = statements_are_short
