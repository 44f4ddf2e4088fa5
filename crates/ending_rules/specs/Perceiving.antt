-- The updates that were asked for at a process in its current view, and why one is refused.
use Rattle.std.specs.Prelude.{◌≡◌, ℕ, ◌&&◌, not, Bool, true, List, Option, Some, if◌then◌else◌}
use Rattle.std.specs.Option.{option_map}
use Rattle.byte_defs.specs.Members.{has}
use Rattle.message_defs.specs.Updates.{Update, Remove, Add, Renew}
use Rattle.message_defs.specs.Statements.{NotifyAt}
use Rattle.group_defs.specs.Views.{View, next_fault, has_keys, is_possible}
use Rattle.group_defs.specs.Process.{Pool, Process}
use Rattle.group_defs.specs.Due.{is_perceived}
use Rattle.group_defs.specs.Events as defs
use Rattle.rp_base.specs.Pids.{put_once}
use Rattle.view_table.specs.Views.{fault as update_fault}
use Rattle.pool_questions.specs.Faults.{EventFault, HaltedNow, BadFrame, Outsider, TooLong, Backlog, NoKey, NoNext}
use Rattle.rule_laws.specs.Perceived.{update_at}
use Rattle.own_place.specs.declared.own.Own.{Own}
use Rattle.own_place.specs.Signed.{has_slot}
use Rattle.ending_rules.specs.declared.notifies.Perceived.{Perceived}

-- the update is one of the set
abbrev pub has_update : Perceived → Update → Bool
has_update set (Remove q) = has set.remove q
has_update set (Add q) = has set.add q
has_update set Renew = set.renew

-- the set with the update
abbrev pub with_update : Perceived → Update → Perceived
with_update set (Remove q) = record set { remove = put_once q set.remove }
with_update set (Add q) = record set { add = put_once q set.add }
with_update set Renew = record set { renew = true }

-- the set is what the process perceived in its current view
abbrev pub IsPerceivedOf : Perceived → Process → Type 0
IsPerceivedOf set p = (u : Update) → is_perceived p (p.pool.view.number, u) ≡ has_update set u

-- the event that asks for the update
abbrev pub asking : Update → defs.Event
asking (Remove q) = defs.Suspect q
asking (Add q) = defs.Join q
asking Renew = defs.RenewView

-- why an event is refused
abbrev pub fault : EventFault → defs.EventFault
fault (HaltedNow delivered cut) = defs.HaltedNow delivered cut
fault (BadFrame f) = defs.BadFrame f
fault Outsider = defs.Outsider
fault TooLong = defs.TooLong
fault Backlog = defs.Backlog
fault NoKey = defs.NoKey
fault (NoNext f) = defs.NoNext (update_fault f)

-- why a member's update is refused in the view: the process that it adds has no key; no view follows by it
abbrev pub asking_fault : List ℕ → View → Update → Option defs.EventFault
asking_fault keyed v u = if has_keys keyed u then option_map defs.NoNext (next_fault v u) else Some defs.NoKey

-- the update of this number is perceived and possible, and its Notify is not signed
abbrev pub is_notify_open : Pool → Own → Perceived → ℕ → Bool
is_notify_open h own set i = has_update set (update_at i) && is_possible own.keyed h.view (update_at i)
    && not (has_slot own.signed (NotifyAt h.view.number (update_at i)))
