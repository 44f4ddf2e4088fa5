use Rattle.std.proofs.Common.{List, length}
use Rattle.message_defs.specs.Statements.{Claim}
use Rattle.group_defs.specs.Process.{Setting}
use Rattle.audit_turns.specs.Judges.{Shares}
use Rattle.audit_defs.specs.Sources.{steps_in}
use Rattle.audit_defs.specs.Audits.{Known, goes_through}
use Rattle.journal_steps.specs.Views.{source, steps_left}
use Rattle.audit_turns.specs.Walks.{IsWalk}
use Rattle.audit_walk.specs.Ways.{IsOnWay}
use Rattle.audit_walk.proofs.journals.walk_journal.Given as goal

-- some of the journal's entries were taken
abbrev pub invariant-gates : goal.invariant-gates
invariant-gates g l = (s : Setting) (k : Known) (own : List Claim)
    → Shares s (g.V.Scheme.valid l.judge.scheme.now) l.judge.group.now l.judge.roster.now → IsWalk s k own l.fn.walk
    → IsOnWay s (goes_through s k (steps_in (l.journal, source l.source))) (steps_left l.journal l.steps) l.walk

abbrev pub decreases-gates : goal.decreases-gates
decreases-gates g l = length (steps_left l.journal l.steps)
