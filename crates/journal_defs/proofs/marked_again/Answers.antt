use Rattle.journal_defs.proofs.Marking as laws
use Rattle.journal_defs.proofs.marked_again.Goals as goal

pub returns : goal.returns
returns c = laws.marked_again
