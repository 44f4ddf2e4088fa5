use Rattle.journal_defs.proofs.Running as laws
use Rattle.journal_defs.proofs.one_image_survives.Goals as goal

pub returns : goal.returns
returns c = laws.one_image_survives
