use Rattle.journal_defs.proofs.Crashing as laws
use Rattle.journal_defs.proofs.opened_is_at_rest.Goals as goal

pub returns : goal.returns
returns c = laws.opened_is_at_rest
