use Rattle.rule_laws.proofs.Deputies.{removed_rank_is}
use Rattle.rule_laws.proofs.removed_rank_is.Goals as goal

pub returns : goal.returns
returns c = removed_rank_is
