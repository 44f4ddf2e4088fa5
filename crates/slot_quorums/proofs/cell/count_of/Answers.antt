use Rattle.std.proofs.Common.{◌∙◌, length, sym, ap}
use Rattle.slot_quorums.proofs.Counted.{ones-members}
use Rattle.slot_quorums.proofs.cell.count_of.Goals as goal

pub returns : goal.returns
returns c = sym (ones-members c.mask.result c.mask.type_inv) ∙ ap length c.mask.ensures
