use Rattle.member_laws.proofs.Telling.{hearing_keeps_own}
use Rattle.member_laws.proofs.hearing_keeps_own.Goals as goal

pub returns : goal.returns
returns c = hearing_keeps_own
