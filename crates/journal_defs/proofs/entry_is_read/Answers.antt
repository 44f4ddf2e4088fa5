use Rattle.journal_defs.proofs.Entering as laws
use Rattle.journal_defs.proofs.entry_is_read.Goals as goal

pub returns : goal.returns
returns c = laws.entry_is_read
