use Rattle.link_defs.proofs.coming_is_opened.Goals as goal
use Rattle.link_defs.proofs.Opening.{is_opened}

pub returns : goal.returns
returns c = is_opened
