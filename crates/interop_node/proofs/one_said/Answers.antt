use Rattle.interop_node.proofs.JournalLaws.{one_said}
use Rattle.interop_node.proofs.one_said.Goals as goal

pub returns : goal.returns
returns c = one_said
