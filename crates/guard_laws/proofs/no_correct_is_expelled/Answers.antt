use Rattle.guard_laws.proofs.Grounds.{no_correct_is_expelled}
use Rattle.guard_laws.proofs.no_correct_is_expelled.Goals as goal

pub returns : goal.returns
returns c = no_correct_is_expelled
