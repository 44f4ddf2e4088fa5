use Rattle.safety_laws.proofs.ViewsAgree.{installed_is_one}
use Rattle.safety_laws.proofs.installed_is_one.Goals as goal

pub returns : goal.returns
returns c = installed_is_one
