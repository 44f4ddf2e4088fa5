use Rattle.std.proofs.Common.{◌≡◌, List, [], ◌++◌, length}
use Rattle.std.specs.List.{AllByRecursion}
use Rattle.message_defs.specs.Spelling.{IsClaim}
use Rattle.message_defs.specs.Statements.{Claim}
use Rattle.group_defs.specs.Process.{Setting}
use Rattle.stmt_codec.specs.Left.{claims_left}
use Rattle.claim_hearing.specs.Hearing.{Shares}
use Rattle.claim_firsts.specs.Seen.{Saw}
use Rattle.audit_claims.proofs.handing.see_all.Given as goal

-- some of the claims were seen, and the others are left
abbrev pub invariant-claims : goal.invariant-claims
invariant-claims g l =
    ((s : Setting) (before own to : List Claim) → Shares s (g.V.Scheme.valid l.judge.scheme.now) l.judge.group.now l.judge.roster.now
    → Saw s before own l.fn.all → Saw s to [] l.fn.handed
    → (seen : List Claim) × Saw s (before ++ seen) own l.all × Saw s (to ++ seen) [] l.handed
    × (seen ++ claims_left l.left ≡ claims_left l.fn.claims))
    × AllByRecursion IsClaim (claims_left l.left)

abbrev pub decreases-claims : goal.decreases-claims
decreases-claims g l = length (claims_left l.left)
