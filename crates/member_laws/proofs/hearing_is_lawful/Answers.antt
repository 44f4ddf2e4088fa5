use Rattle.member_laws.proofs.Lawful.{hearing_is_lawful}
use Rattle.member_laws.proofs.hearing_is_lawful.Goals as goal

pub returns : goal.returns
returns c = hearing_is_lawful
