use Rattle.std.proofs.Common.{◌≡◌, length}
use Rattle.std.specs.List.{AllByRecursion}
use Rattle.message_defs.specs.Spelling.{IsClaim}
use Rattle.group_defs.specs.Process.{Setting, Process}
use Rattle.group_defs.specs.Hearing.{hear_all}
use Rattle.stmt_codec.specs.Left.{claims_left}
use Rattle.rule_laws.specs.Heard.{IsPool}
use Rattle.claim_pool.specs.Kept.{HasDelivered}
use Rattle.claim_hearing.specs.Hearing.{Shares, IsHeard}
use Rattle.claim_hearing.proofs.hearing.hear_all.Given as goal

abbrev pub invariant-claims : goal.invariant-claims
invariant-claims g l =
    ((s : Setting) (p : Process) → Shares s (g.V.Scheme.valid l.judge.scheme.now) l.judge.group.now l.judge.roster.now
    → IsPool l.fn.pool.pool → HasDelivered l.own p → p.pool ≡ l.fn.pool.pool → p.conflicts ≡ l.fn.conflicts.pairs
    → (q : Process) × IsHeard q l.pool.pool l.conflicts.pairs × IsPool l.pool.pool × HasDelivered l.own q
    × (hear_all s q (claims_left l.left) ≡ hear_all s p (claims_left l.fn.claims)))
    × AllByRecursion IsClaim (claims_left l.left)
    × (l.pool.pool.view ≡ l.fn.pool.pool.view)
    × (l.pool.marked ≡ l.fn.pool.marked)
    × (l.conflicts.marked ≡ l.fn.conflicts.marked)

abbrev pub decreases-claims : goal.decreases-claims
decreases-claims g l = length (claims_left l.left)
