use Rattle.taking_laws.proofs.Taking as laws
use Rattle.taking_laws.proofs.notes_are_taken.Goals as goal

pub returns : goal.returns
returns c = laws.notes_are_taken
