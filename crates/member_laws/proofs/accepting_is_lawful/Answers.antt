use Rattle.member_laws.proofs.Lawful.{accepting_is_lawful}
use Rattle.member_laws.proofs.accepting_is_lawful.Goals as goal

pub returns : goal.returns
returns c = accepting_is_lawful
