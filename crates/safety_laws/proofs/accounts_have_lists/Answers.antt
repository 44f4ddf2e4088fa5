use Rattle.safety_laws.proofs.AgreeTested.{accounts_have_lists}
use Rattle.safety_laws.proofs.accounts_have_lists.Goals as goal

pub returns : goal.returns
returns c = accounts_have_lists
