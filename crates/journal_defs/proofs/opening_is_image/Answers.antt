use Rattle.journal_defs.proofs.Crashing as laws
use Rattle.journal_defs.proofs.opening_is_image.Goals as goal

pub returns : goal.returns
returns c = laws.opening_is_image
