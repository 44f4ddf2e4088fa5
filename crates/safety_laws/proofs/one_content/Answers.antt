use Rattle.safety_laws.proofs.OneContent.{one_content}
use Rattle.safety_laws.proofs.one_content.Goals as goal

pub returns : goal.returns
returns c = one_content
