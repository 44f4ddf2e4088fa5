use Rattle.std.proofs.Common.{lit<}
use Rattle.rp_base.specs.Masks.{mask_of-members}
use Rattle.schedule_making.proofs.making.everyone.Goals as goal

pub returns : goal.returns
returns c = rw c.from_mask.ensures (mask_of-members 15 (lit< tt))
