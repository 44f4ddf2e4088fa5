use Rattle.journal_defs.proofs.Recording as laws
use Rattle.journal_defs.proofs.one_reading.Goals as goal

pub returns : goal.returns
returns c = laws.one_reading
