use Rattle.safety_laws.proofs.Installed.{installed_is_view}
use Rattle.safety_laws.proofs.installed_is_view.Goals as goal

pub returns : goal.returns
returns c = installed_is_view
