-- What a guard does, and whom it can't expel.
use Rattle.std.specs.Prelude.{◌≡◌, ◌≢◌, ◌⊎◌, ℕ, ◌+◌, List, [], Some, IsTrue, All, Contains, slice_get}
use Rattle.byte_defs.specs.Members.{has}
use Rattle.message_defs.specs.Updates.{Update, Remove}
use Rattle.message_defs.specs.Statements.{Notify}
use Rattle.message_defs.specs.Spelling.{IsClaim}
use Rattle.group_defs.specs.Views.{View, is_member, is_possible, next_view}
use Rattle.group_defs.specs.Process.{Setting, Process, keyed, start}
use Rattle.group_defs.specs.Events.{Event, Suspect, Turn, run}
use Rattle.group_defs.specs.Accounts.{group_of}
use Rattle.group_defs.specs.Family.{Family, numbers, end_of, accounts, handed, handed_to, statements_of, Honest}
use Rattle.group_defs.specs.Laws.{Premises}
use Rattle.conviction_defs.specs.Convictions.{Convicts}
use Rattle.guard_defs.specs.Guarding.{Key, GuardRun, Guard, IsGuarded, guarded_all, turns_of, correct_of, family_of, start_of, WasHandedIn, RemovesConvicted}

-- what a guard makes of events is a run of a guard
abbrev pub GuardsAreRuns : Type 0
GuardsAreRuns = (s : Setting) (key : Key) (p : Process) (es : List Event) → GuardRun s p [] (guarded_all s key p es)

-- whom a correct process's frames convict is not correct
abbrev pub NoCorrectIsConvicted : Type 0
NoCorrectIsConvicted = (f : Family) (q : ℕ) → Honest f → Convicts f.setting (handed f) q → All (λ p. p ≢ q) (numbers f)

-- the frames that were handed to a guard convict whom it expels
abbrev pub ExpelledIsConvicted : Type 0
ExpelledIsConvicted = (s : Setting) (g : Guard) → IsGuarded s g
    → All (λ t. IsTrue t.added → (q : ℕ) × (t.turn.event ≡ Suspect q) × Convicts s (handed_to (turns_of g.given)) q) g.given

-- so no guard expels a correct process
abbrev pub NoCorrectIsExpelled : Type 0
NoCorrectIsExpelled = (s : Setting) (guards : List Guard) → Honest (family_of s guards) → All (IsGuarded s) guards
    → All (λ g. All (λ t. IsTrue t.added → (q : ℕ) × (t.turn.event ≡ Suspect q) × All (λ h. h.me ≢ q) guards) g.given) guards

-- a guard at its end
abbrev pub end : Setting → Guard → Process
end s g = end_of s (correct_of g)

-- a guard that asks for the removal of a correct process was asked to from outside, in the same view
abbrev pub RemovalsAreHandedIn : Type 0
RemovalsAreHandedIn = (s : Setting) (guards : List Guard) → Honest (family_of s guards) → All (IsGuarded s) guards
    → All (λ g. All (λ h. (x : ℕ) → Contains (statements_of (end s g)) (Notify x (Remove h.me))
    → WasHandedIn s (start_of s g) g.given x (Remove h.me)) guards) guards

-- A correct member of the view perceived the update that ended it: it was handed in from outside, or the frames that this member was
-- handed convict the process that it removes.
pub record HasGrounds (s : Setting) (guards : List Guard) (v w : View) : Type 0 where
  pub update : Update
  pub possible : IsTrue (is_possible (keyed s) v update)
  pub next : w ≡ next_view v update
  pub by : Guard
  pub correct : Contains guards by
  pub member : IsTrue (is_member v by.me)
  pub perceived : Contains (end s by).perceived (v.number, update)
  pub grounds : WasHandedIn s (start_of s by) by.given v.number update ⊎ RemovesConvicted s (handed_to (turns_of by.given)) update

-- under the premises each two neighbouring views of the group have grounds
abbrev pub ViewsHaveGrounds : Type 0
ViewsHaveGrounds = (s : Setting) (guards : List Guard) (x : ℕ) (v w : View) → Premises (family_of s guards) → All (IsGuarded s) guards
    → slice_get (group_of (accounts (family_of s guards))).views x ≡ Some v
    → slice_get (group_of (accounts (family_of s guards))).views (x + 1) ≡ Some w → HasGrounds s guards v w

-- ---- accusations

-- the claims of each conflict that the process keeps are such as a frame can carry, and of each member of its view the roster has a key
pub record CanAccuse (s : Setting) (p : Process) : Type 0 where
  pub carried : All (λ pair. IsClaim pair.0 × IsClaim pair.1) p.conflicts
  pub listed : All (λ m. IsTrue (has (keyed s) m)) p.pool.view.members

-- This holds after any events, where what was handed over and what the process has signed is such, and where the first members have keys:
-- what a process accuses another with goes to all other members.
abbrev pub RunsCanAccuse : Type 0
RunsCanAccuse = (s : Setting) (me limit : ℕ) (ts : List Turn) → All (λ m. IsTrue (has (keyed s) m)) s.genesis.members
    → All IsClaim (handed_to ts) → All IsClaim (run s (start s me limit) ts).signed → CanAccuse s (run s (start s me limit) ts)
