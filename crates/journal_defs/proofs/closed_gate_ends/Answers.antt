use Rattle.journal_defs.proofs.Gates as laws
use Rattle.journal_defs.proofs.closed_gate_ends.Goals as goal

pub returns : goal.returns
returns c = laws.closed_gate_ends
