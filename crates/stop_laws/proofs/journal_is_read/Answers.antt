use Rattle.stop_laws.proofs.Whole.{journal_is_read as proved}
use Rattle.stop_laws.proofs.journal_is_read.Goals as goal

pub returns : goal.returns
returns c = proved
