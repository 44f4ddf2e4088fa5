use Rattle.image_parts.proofs.Ends.{end-is}
use Rattle.image_parts.proofs.phase.own_end.Goals as goal

pub returns : goal.returns
returns c = end-is c.args.number c.args.signed.now c.first_end.result c.first_end.ensures
