-- Updates: the least Notify and the End that are due.
use Rattle.std.specs.Prelude.{◌≡◌, ℕ, ◌-◌, Bool, IsTrue, ◌&&◌, not, nat_lt, if◌then◌else◌, length, Option, Some, None, is_some, option_map}
use Rattle.group_defs.specs.Below.{IsUpdate, Update, Remove, Add, Renew, Notify, End, NotifyAt, EndAt}
use Rattle.group_defs.specs.Views.{is_member, is_possible}
use Rattle.group_defs.specs.Process.{Notifies, Ends, Setting, Pool, Process, keyed}
use Rattle.group_defs.specs.Certified.{is_notified, notified_updates, placed, is_signed}
use Rattle.group_defs.specs.Due.{is_perceived, least_due}
use Rattle.rule_laws.specs.Heard.{IsPool}
use Rattle.pool_laws.specs.Least.{IsLeastBelow}

-- the updates in order, by number: Remove of 0 to 63, Add of 0 to 63, Renew
abbrev pub update_at : ℕ → Update
update_at i = if nat_lt i 64 then Remove i else if nat_lt i 128 then Add (i - 64) else Renew

-- how many updates there are
abbrev pub most_updates : ℕ
most_updates = 129

-- the update of this number is perceived and possible, and its Notify is not signed
abbrev pub may_notify : Setting → Process → ℕ → Bool
may_notify s p i = is_perceived p (p.pool.view.number, update_at i) && is_possible (keyed s) p.pool.view (update_at i)
    && not (is_signed p (NotifyAt p.pool.view.number (update_at i)))

-- what is perceived in the view is of processes that there can be
abbrev pub PerceivesInRange : Process → Type 0
PerceivesInRange p = (u : Update) → IsTrue (is_perceived p (p.pool.view.number, u)) → IsUpdate u

-- a member's least Notify is that of the least such update
abbrev pub NotifyIsLeast : Type 0
NotifyIsLeast = (s : Setting) (p : Process) (o : Option ℕ) → IsTrue (is_member p.pool.view p.me) → PerceivesInRange p
    → IsLeastBelow most_updates (may_notify s p) o
    → least_due s p Notifies ≡ option_map (λ i. Notify p.pool.view.number (update_at i)) o

-- a member may say its End: some update is notified by more than f members, and the End is not signed
abbrev pub may_end : Process → Bool
may_end p = is_member p.pool.view p.me && nat_lt 0 (length (notified_updates p.pool)) && not (is_signed p (EndAt p.pool.view.number))

-- then it says the placed length
abbrev pub EndIsLeast : Type 0
EndIsLeast = (s : Setting) (p : Process)
    → least_due s p Ends ≡ (if may_end p then Some (End p.pool.view.number (length (placed p.pool))) else None)

-- some update is notified where the least of them is there
abbrev pub NotifiedIsFound : Type 0
NotifiedIsFound = (h : Pool) (o : Option ℕ) → IsPool h → IsLeastBelow most_updates (λ i. is_notified h (update_at i)) o
    → nat_lt 0 (length (notified_updates h)) ≡ is_some o
