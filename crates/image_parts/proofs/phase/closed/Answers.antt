use Rattle.image_parts.proofs.Phases.{closing-is, open-is}
use Rattle.image_parts.proofs.phase.closed.Goals as goal

pub returns-in-Some : goal.returns-in-Some
returns-in-Some c = λ p halted undecided member end.
    closing-is p halted undecided c.args.ended c.in-Some.length c.close.result c.in-Some.is c.close.ensures.length member end

pub returns-in-None : goal.returns-in-None
returns-in-None c = λ p halted undecided member end. open-is p halted undecided c.args.ended c.in-None.is member end
