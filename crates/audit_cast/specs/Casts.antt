-- The processes of an audit as they start.
use Rattle.std.specs.Prelude.{◌≡◌, List, [], Option, Some, None, Result, Ok}
use Rattle.group_defs.specs.Process.{Setting}
use Rattle.audit_defs.specs.Players as audit
use Rattle.audit_defs.specs.Audits.{AuditFault, Known}
use Rattle.audit_walk.specs.Turns.{Walk}
use Rattle.audit_walk.specs.Turns.{IsWalk, with_player}

-- with one process more, where there is one
abbrev pub with_any : Known → Option audit.Player → Known
with_any k None = k
with_any k (Some c) = with_player k c

-- the walk's processes are these, which start, and no claim came up
pub record Starts (s : Setting) (cast : Result (List audit.Player) AuditFault) (w : Walk) : Type 0 where
  pub players : List audit.Player
  pub are : cast ≡ Ok players
  pub walk : IsWalk s (record { players = players; claims = [] }) [] w
