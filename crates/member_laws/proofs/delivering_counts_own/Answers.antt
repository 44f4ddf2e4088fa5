use Rattle.member_laws.proofs.Telling.{delivering_counts_own}
use Rattle.member_laws.proofs.delivering_counts_own.Goals as goal

pub returns : goal.returns
returns c = delivering_counts_own
