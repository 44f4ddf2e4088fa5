use Rattle.interop_signatures.proofs.TreeLaws.{ready}
use Rattle.interop_signatures.proofs.trees.key_at.Goals as goal

pub returns-in-Ok : goal.returns-in-Ok
returns-in-Ok c = ready _ c.in-Ok.key c.skip_to.new.self c.requires c.in-Ok.ensures.made c.in-Ok.key.tree.known c.skip_to.ensures.key
    c.skip_to.ensures.used c.skip_to.ensures.total
