use Rattle.rp_base.proofs.Members.{same_members}
use Rattle.rp_base.proofs.pid_set.PidSetPartialEq.eq.Goals as goal

pub returns : goal.returns
returns c = rw (← c.self.view_is, ← c.other.view_is) (same_members c.self.inside.0 c.other.inside.0 c.self.invariant c.other.invariant)
