use Rattle.std.proofs.Common.{arith}
use Rattle.std.proofs.lemmas.List.{take_at}
use Rattle.lms_ots.proofs.chains.block_of.Goals as goal

pub returns : goal.returns
returns c = rw c.copy_from_slice.ensures.after (take_at c.args.head.now _ 22 (omega arith))
