use Rattle.journal_defs.proofs.Gates as laws
use Rattle.journal_defs.proofs.broken_gate_breaks.Goals as goal

pub returns : goal.returns
returns c = laws.broken_gate_breaks
