use Rattle.guard_laws.proofs.Grounds.{views_have_grounds}
use Rattle.guard_laws.proofs.views_have_grounds.Goals as goal

pub returns : goal.returns
returns c = views_have_grounds
