use Rattle.event_laws.proofs.Signed.{signing_leaves}
use Rattle.event_laws.proofs.signing_leaves.Goals as goal

pub returns : goal.returns
returns c = signing_leaves
