use Rattle.std.proofs.Common.{List, drop, map}
use Rattle.std.specs.List.{enumerate_from, flat_map}
use Rattle.message_defs.specs.Statements.{Claim}
use Rattle.group_defs.specs.Process.{Setting}
use Rattle.audit_turns.specs.Judges.{Shares}
use Rattle.audit_defs.specs.Sources.{steps_in, steps_of}
use Rattle.audit_defs.specs.Audits.{Known, goes_through}
use Rattle.journal_steps.specs.Views.{source}
use Rattle.audit_turns.specs.Walks.{IsWalk}
use Rattle.audit_walk.specs.Ways.{IsOnWay}
use Rattle.audit_walk.proofs.journals.walk_journals.Given as goal

-- the journals before this index were walked
abbrev pub invariant-loop-journal : goal.invariant-loop-journal
invariant-loop-journal g l = (s : Setting) (k : Known) (own : List Claim)
    → Shares s (g.V.Scheme.valid l.judge.scheme.now) l.judge.group.now l.judge.roster.now → IsWalk s k own l.fn.walk
    → IsOnWay s (goes_through s k (steps_of (map source l.sources)))
    (flat_map steps_in (enumerate_from l.journal (map source (drop l.journal l.sources)))) l.walk
