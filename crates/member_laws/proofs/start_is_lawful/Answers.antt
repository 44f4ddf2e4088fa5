use Rattle.member_laws.proofs.Lawful.{start_is_lawful}
use Rattle.member_laws.proofs.start_is_lawful.Goals as goal

pub returns : goal.returns
returns c = start_is_lawful
