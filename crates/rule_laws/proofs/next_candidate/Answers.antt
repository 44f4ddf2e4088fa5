use Rattle.rule_laws.proofs.Settled.{next_candidate}
use Rattle.rule_laws.proofs.next_candidate.Goals as goal

pub returns : goal.returns
returns c = next_candidate
