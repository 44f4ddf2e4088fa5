use Rattle.statements.proofs.Bodies.{same_statement}
use Rattle.statements.proofs.laws.spelling_determines_statement.Goals as goal

pub returns : goal.returns
returns c = same_statement
