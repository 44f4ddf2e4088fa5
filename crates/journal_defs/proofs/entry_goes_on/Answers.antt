use Rattle.journal_defs.proofs.Gates as laws
use Rattle.journal_defs.proofs.entry_goes_on.Goals as goal

pub returns : goal.returns
returns c = laws.entry_goes_on
