use Rattle.std.proofs.Common.{sym, arith}
use Rattle.rp_base.specs.Masks.{mask_of-members}
use Rattle.story_lines.proofs.words.mask.Goals as goal

pub returns : goal.returns
returns c = rw (← c.mask.ensures) (sym (mask_of-members c.mask.result (omega (arith, c.mask.type_inv))))
