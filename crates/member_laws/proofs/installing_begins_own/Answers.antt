use Rattle.member_laws.proofs.Telling.{installing_begins_own}
use Rattle.member_laws.proofs.installing_begins_own.Goals as goal

pub returns : goal.returns
returns c = installing_begins_own
