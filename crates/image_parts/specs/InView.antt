-- The state of a process in its view.
use Rattle.std.specs.Prelude.{◌≡◌, ◌≢◌, ◌↔◌, ℕ, ◌<◌, true, List, Option, Some, IsTrue, option_map}
use Rattle.message_defs.specs.Updates.{Value}
use Rattle.message_defs.specs.Statements.{End, EndAt, Ready}
use Rattle.group_defs.specs.Views.{View, is_member, is_possible}
use Rattle.group_defs.specs.Process.{Pool, Process, places_in}
use Rattle.group_defs.specs.Certified.{is_certified, own_on}

-- the own End of the view is of this length, or there is none
abbrev pub HasEnd : Process → Option ℕ → Type 0
HasEnd p ended = own_on p (EndAt p.pool.view.number) ≡ option_map (End p.pool.view.number) ended

-- it has halted exactly where it has decided, and delivered beyond the cut
abbrev pub HasHalted : Process → Type 0
HasHalted p = (p.halted ≡ true) ↔ ((d : ℕ × Value) × (p.decision ≡ Some d) × (d.1.cut < places_in p.delivered))

-- The process has this number and this pool, has signed no End of the view or one of this length, has delivered `many` places, and has
-- decided this; and it has halted as it should.
pub record IsInView (p : Process) (h : Pool) (me : ℕ) (ended : Option ℕ) (many : ℕ) (d : Option (ℕ × Value)) : Type 0 where
  pub pool : p.pool ≡ h
  pub number : p.me ≡ me
  pub end : HasEnd p ended
  pub places : places_in p.delivered ≡ many
  pub decision : p.decision ≡ d
  pub halted : HasHalted p

-- the update is possible in the view, the process is a member of it, and `places` is not the cut
abbrev pub EndsView : View → List ℕ → ℕ → ℕ → ℕ × Value → Type 0
EndsView v keyed me places d = IsTrue (is_possible keyed v d.1.update) × IsTrue (is_member v me) × (places ≢ d.1.cut)

-- what is decided, if anything is, is a certified Ready's, and ends the view so
abbrev pub IsDecidedSo : Pool → List ℕ → ℕ → ℕ → Option (ℕ × Value) → Type 0
IsDecidedSo h keyed me places decision = (d : ℕ × Value) → decision ≡ Some d
    → IsTrue (is_certified h (Ready h.view.number d.0 d.1)) × EndsView h.view keyed me places d
