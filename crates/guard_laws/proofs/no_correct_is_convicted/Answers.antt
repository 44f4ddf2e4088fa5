use Rattle.guard_laws.proofs.Convicting.{no_correct_is_convicted}
use Rattle.guard_laws.proofs.no_correct_is_convicted.Goals as goal

pub returns : goal.returns
returns c = no_correct_is_convicted
