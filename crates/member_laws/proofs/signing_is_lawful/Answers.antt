use Rattle.member_laws.proofs.Lawful.{signing_is_lawful}
use Rattle.member_laws.proofs.signing_is_lawful.Goals as goal

pub returns : goal.returns
returns c = signing_is_lawful
