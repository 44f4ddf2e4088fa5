use Rattle.std.proofs.Common.{arith}
use Rattle.std.proofs.lemmas.Nat.{or_lt}
use Rattle.rp_base.proofs.Members.{put_member}
use Rattle.rp_base.proofs.pid_set.PidSet.insert.Goals as goal

pub invariant_of-self : goal.invariant_of-self
invariant_of-self c = or_lt 64 _ _ c.self.invariant (omega arith)

pub returns : goal.returns
returns c =
    rw (← c.self.view_is, c.get.ensures.value)
    (put_member c.self.inside.0 c.args.p (rw c.get.ensures.value at c.get.ensures.below))
