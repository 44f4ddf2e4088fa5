use Rattle.member_laws.proofs.Lawful.{installing_is_lawful}
use Rattle.member_laws.proofs.installing_is_lawful.Goals as goal

pub returns : goal.returns
returns c = installing_is_lawful
