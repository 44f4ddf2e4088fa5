use Rattle.journal_defs.proofs.Recording as laws
use Rattle.journal_defs.proofs.record_is_spelled.Goals as goal

pub returns : goal.returns
returns c = laws.record_is_spelled
