use Rattle.schedule_laws.proofs.Wholes.{spelled_is_read}
use Rattle.schedule_laws.proofs.spelled_is_read.Goals as goal

pub returns : goal.returns
returns c = spelled_is_read
