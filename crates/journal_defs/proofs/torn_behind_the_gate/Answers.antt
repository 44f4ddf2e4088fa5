use Rattle.journal_defs.proofs.Crashing as laws
use Rattle.journal_defs.proofs.torn_behind_the_gate.Goals as goal

pub returns : goal.returns
returns c = laws.torn_behind_the_gate
