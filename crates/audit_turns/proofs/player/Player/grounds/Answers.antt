use Rattle.std.proofs.Common.{[]}
use Rattle.group_defs.specs.Family.{handed_to}
use Rattle.audit_turns.proofs.player.Player.grounds.Goals as goal

pub returns : goal.returns
returns c = λ s d rising is. c.convicted.ensures s (handed_to d.turns) [] rising is.handed
