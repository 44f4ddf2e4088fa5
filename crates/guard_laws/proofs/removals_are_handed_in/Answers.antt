use Rattle.guard_laws.proofs.Grounds.{removals_are_handed_in}
use Rattle.guard_laws.proofs.removals_are_handed_in.Goals as goal

pub returns : goal.returns
returns c = removals_are_handed_in
