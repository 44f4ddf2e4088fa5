use Rattle.std.proofs.Common.{sym}
use Rattle.std.proofs.lemmas.Nat.Bits.{shr_and_one}
use Rattle.rp_base.proofs.Members.{has_member}
use Rattle.rp_base.proofs.pid_set.PidSet.contains.Goals as goal

pub returns : goal.returns
returns c =
    rw (← c.self.view_is, c.get.ensures.value, shr_and_one c.self.inside.0 c.args.p)
    (sym (has_member c.self.inside.0 c.args.p (rw c.get.ensures.value at c.get.ensures.below)))
