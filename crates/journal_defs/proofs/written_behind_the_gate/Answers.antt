use Rattle.journal_defs.proofs.Crashing as laws
use Rattle.journal_defs.proofs.written_behind_the_gate.Goals as goal

pub returns : goal.returns
returns c = laws.written_behind_the_gate
