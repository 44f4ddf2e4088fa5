use Rattle.rule_laws.proofs.Echoing.{echo_is_least}
use Rattle.rule_laws.proofs.echo_is_least.Goals as goal

pub returns : goal.returns
returns c = echo_is_least
