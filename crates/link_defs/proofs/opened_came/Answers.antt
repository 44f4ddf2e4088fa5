use Rattle.link_defs.proofs.opened_came.Goals as goal
use Rattle.link_defs.proofs.Opening.{came}

pub returns : goal.returns
returns c = came
