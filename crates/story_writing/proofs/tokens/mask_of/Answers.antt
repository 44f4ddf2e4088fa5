use Rattle.std.proofs.Common.{sym, arith}
use Rattle.rp_base.specs.Masks.{mask_of-members}
use Rattle.story_writing.proofs.tokens.mask_of.Goals as goal

pub returns-clause-value : goal.returns-clause-value
returns-clause-value c = rw (← c.mask.ensures) (sym (mask_of-members c.mask.result (omega (arith, c.mask.type_inv))))
