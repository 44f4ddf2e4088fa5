use Rattle.statements.proofs.Bodies.{same_body}
use Rattle.statements.proofs.laws.body_determines_statement.Goals as goal

pub returns : goal.returns
returns c = same_body
