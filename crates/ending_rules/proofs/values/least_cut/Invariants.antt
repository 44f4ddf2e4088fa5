use Rattle.rule_laws.specs.Ending.{IsLeastCut}
use Rattle.ending_rules.proofs.values.least_cut.Given as goal

abbrev pub invariant-members : goal.invariant-members
invariant-members l = IsLeastCut l.pool.pool l.member-index l.found
