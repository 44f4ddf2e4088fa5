use Rattle.std.proofs.Common.{ap, ◌∙◌}
use Rattle.group_defs.specs.Process.{Pool}
use Rattle.group_defs.specs.Certified.{number_of_members}
use Rattle.pool_measures.proofs.Members.{after_members}
use Rattle.pool_measures.proofs.hearing.is_heard.Goals as goal

pub returns-clause-members : goal.returns-clause-members
returns-clause-members c = ap (λ (h : Pool). number_of_members h) c.take-verdict.ensures.heard ∙ after_members _ _ _
