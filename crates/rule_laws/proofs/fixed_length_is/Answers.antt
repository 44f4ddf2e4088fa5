use Rattle.rule_laws.proofs.Settled.{fixed_length_is}
use Rattle.rule_laws.proofs.fixed_length_is.Goals as goal

pub returns : goal.returns
returns c = fixed_length_is
