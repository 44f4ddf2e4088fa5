-- A walk that has come to the end of all journals.
use Rattle.std.specs.Prelude.{◌≡◌, ℕ, List, [], Ok, map}
use Rattle.std.specs.List.{AllZip}
use Rattle.message_defs.specs.Statements.{Claim}
use Rattle.group_defs.specs.Process.{Setting}
use Rattle.group_defs.specs.Family.{ends}
use Rattle.audit_defs.specs.Sources.{Source, steps_of}
use Rattle.audit_defs.specs.Players.{Player, family_of}
use Rattle.audit_defs.specs.Audits.{Audited, Known, cast_of, goes_through}
use Rattle.audit_cast.specs.Turns.{IsPlayer, IsWalk, Walk}

-- The listed processes started, all steps of these journals were taken, and this is known then.
pub record Ended (s : Setting) (sources : List Source) (listed : List ℕ) (w : Walk) : Type 0 where
  pub players : List Player
  pub cast : cast_of s sources listed ≡ Ok players
  pub known : Known
  pub own : List Claim
  pub ends : goes_through s (record { players = players; claims = [] }) (steps_of sources) ≡ Ok known
  pub walk : IsWalk s known own w

-- what an audit finds out where this is known at the end
abbrev pub audited_by : Setting → Known → Audited
audited_by s known = record { family = family_of s known.players; claims = known.claims }

-- The walk has come to the end of what the audit finds out: its processes are, in their order, the audit's as they end.
pub record HasCome (a : Audited) (w : Walk) : Type 0 where
  pub players : List Player
  pub each : AllZip (IsPlayer a.family.setting) players w.players.items
  pub ends : map (λ c. c.now) players ≡ ends a.family
