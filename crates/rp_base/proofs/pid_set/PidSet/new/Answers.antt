use Rattle.rp_base.proofs.Members.{members_none}
use Rattle.rp_base.proofs.pid_set.PidSet.new.Goals as goal

pub returns : goal.returns
returns c = members_none
