-- A turn that a hosted process took, while the process is away from its place.
use Rattle.std.specs.Prelude.{◌≡◌, ℕ, List, Some, None}
use Rattle.kit_defs.specs.Kits.{Kit}
use Rattle.group_defs.specs.Process.{Process}
use Rattle.group_defs.specs.Events.{refusal}
use Rattle.journal_defs.specs.declared.Version.{Version}
use Rattle.journal_defs.specs.Entries.{Event, IsEntry}
use Rattle.journal_defs.specs.Crashes.{staged}
use Rattle.auth_link.specs.Keys.{known}
use Rattle.node_defs.specs.Casts.{Cast, cast_of, entry_for, handed, known_of}
use Rattle.sealing_laws.specs.Running.{Hosts, AreHosts, TakesLive, fault as fault_of, Turn}
use Rattle.node_taking.specs.declared.stepping.Away.{Away}
use Rattle.node_taking.specs.declared.stepping.Fate.{Fate}
use Rattle.node_taking.specs.declared.stepping.Fate.TheVariants as fates
use Rattle.journal_rp.specs.declared.turn.Unsynced.{Unsynced}

-- of some node of this kit these are the hosted processes
pub record HasHosts (kit : Kit) (hosts : Hosts) : Type 0 where
  pub version : Version
  pub now : ℕ → Process
  pub are : AreHosts (cast_of kit version) kit now None hosts

-- process p, which was `now`, has taken this event, and its turn is the cast's live one; with the turn are the process's keys and its port
pub record IsAway (c : Cast) (kit : Kit) (p : ℕ) (now : Process) (e : Event) (away : Away Unsynced) : Type 0 where
  pub takes : TakesLive c p now e (Turn away.turn)
  pub keys : known away.keys ≡ known_of kit p
  pub port : c.port p ≡ away.port

-- What has become of the event: it was refused, and all hosted processes are as they were; or its process is away with its turn.
abbrev pub StepsTo : Cast → Kit → (ℕ → Process) → ℕ → Event → Hosts → Fate → Type 0
StepsTo c kit now p e hosts (fates.Refused fault) = AreHosts c kit now None hosts × (refusal c.setting (now p) (handed e) ≡ Some (fault_of fault))
StepsTo c kit now p e hosts (fates.Taken away) = AreHosts c kit now (Some p) hosts × IsAway c kit p (now p) e away

-- these bytes are staged of the entry of the turn that process p takes of the event, which it doesn't refuse
pub record IsTurnOf (c : Cast) (now : Process) (e : Event) (bytes : List ℕ) : Type 0 where
  pub taken : refusal c.setting now (handed e) ≡ None
  pub staged : bytes ≡ staged (entry_for c now e)
  pub entry : IsEntry (entry_for c now e)
