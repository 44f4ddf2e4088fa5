use Rattle.kit_defs.proofs.SpelledKits.{spelled_is_read}
use Rattle.kit_defs.proofs.spelled_is_read.Goals as goal

pub returns : goal.returns
returns c = spelled_is_read
