use Rattle.guard_service.proofs.Whole.{accusations_are_whole}
use Rattle.guard_service.proofs.accusations_are_whole.Goals as goal

pub returns : goal.returns
returns c = accusations_are_whole
