-- How far a walk has come.
use Rattle.std.specs.Prelude.{◌≡◌, List, Result, Ok}
use Rattle.message_defs.specs.Statements.{Claim}
use Rattle.group_defs.specs.Process.{Setting}
use Rattle.audit_defs.specs.Sources.{Step}
use Rattle.audit_defs.specs.Audits.{AuditFault, Known, goes_through}
use Rattle.audit_turns.specs.declared.walk.Walk.{Walk}
use Rattle.audit_turns.specs.Walks.{IsWalk}

-- all steps were taken: the walk has what they end in
pub record Walked (s : Setting) (end : Result Known AuditFault) (w : Walk) : Type 0 where
  pub known : Known
  pub own : List Claim
  pub ends : end ≡ Ok known
  pub walk : IsWalk s known own w

-- some steps were taken, and these are left: from what the walk has now, they end in what all steps end in
pub record IsOnWay (s : Setting) (end : Result Known AuditFault) (left : List Step) (w : Walk) : Type 0 where
  pub known : Known
  pub own : List Claim
  pub walk : IsWalk s known own w
  pub ends : end ≡ goes_through s known left
