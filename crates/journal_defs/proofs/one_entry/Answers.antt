use Rattle.journal_defs.proofs.Gates as laws
use Rattle.journal_defs.proofs.one_entry.Goals as goal

pub returns : goal.returns
returns c = laws.one_entry
