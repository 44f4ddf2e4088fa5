-- Which updates a set has.
use Rattle.std.specs.Prelude.{◌≡◌, Bool, ◌==◌, if◌then◌else◌, Option, None}
use Rattle.std.specs.List.{list_any}
use Rattle.byte_defs.specs.Choices.{is_some_and}
use Rattle.message_defs.specs.Statements.{Statement}
use Rattle.message_defs.specs.Updates.{Update, Remove, Add, Renew}
use Rattle.group_defs.specs.Process.{Pool}
use Rattle.group_defs.specs.Certified.{is_notified, update_said}
use Rattle.pool_values.specs.declared.updates.UpdateSet.{UpdateSet}

-- the update is in the set
abbrev pub has_update : UpdateSet → Update → Bool
has_update s (Remove p) = list_any (λ q. q == p) s.removed
has_update s (Add p) = list_any (λ q. q == p) s.added
has_update s Renew = s.renewed

-- the set has just the updates that more than f members notify
abbrev pub AreNotified : Pool → UpdateSet → Type 0
AreNotified h s = (u : Update) → has_update s u ≡ is_notified h u

-- the update that a Notify names, where more than f members notify it
abbrev pub notified_said : Pool → Statement → Option Update
notified_said h st = if is_some_and (update_said st) (is_notified h) then update_said st else None
