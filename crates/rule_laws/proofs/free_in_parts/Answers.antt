use Rattle.rule_laws.proofs.Ends.{free_in_parts}
use Rattle.rule_laws.proofs.free_in_parts.Goals as goal

pub returns : goal.returns
returns c = free_in_parts
