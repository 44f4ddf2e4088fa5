use Rattle.std.proofs.Common.{arith}
use Rattle.rp_base.specs.Masks.{mask_of-members}
use Rattle.schedule_fields.proofs.fields.set_of.Goals as goal

pub returns : goal.returns
returns c = rw c.from_mask.ensures (mask_of-members c.args.mask (omega (arith, c.ranges.mask)))
