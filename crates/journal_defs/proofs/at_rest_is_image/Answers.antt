use Rattle.journal_defs.proofs.Crashing as laws
use Rattle.journal_defs.proofs.at_rest_is_image.Goals as goal

pub returns : goal.returns
returns c = laws.at_rest_is_image
