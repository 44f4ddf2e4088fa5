use Rattle.member_laws.proofs.Telling.{delivered_is_counted}
use Rattle.member_laws.proofs.delivered_is_counted.Goals as goal

pub returns : goal.returns
returns c = delivered_is_counted
