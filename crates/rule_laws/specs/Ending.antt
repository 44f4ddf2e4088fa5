-- Values: which may end a view, which is chosen, and what a view decides and delivers.
-- Names here (* for this crate alone):
--   free values: may_update, may_cut, FreeInParts*, end_of, EndsByMember*, IsLeastCut, FreeValueIs*
--   values that an earlier rank may have decided: last_of, LastsByMember*, AckedIs*, AdoptedIs*, ChooseIs*, AnyIsFound*, NextCandidate*,
--     RemovedBelow*
--   settling: DecidedIs*, DeliverableIs*, IsFixedLength*, FixedLengthIs*
use Rattle.std.specs.Prelude.{◌≡◌, ◌⊎◌, ℕ, suc, ◌-◌, ◌<◌, ◌≤◌, Bool, IsTrue, IsFalse, ◌&&◌, ◌||◌, nat_le, ◌==◌, if◌then◌else◌, take, count_by, Option, Some, None, is_some, option_map, option_and_then, slice_get}
use Rattle.std.specs.List.{list_any, list_all, range_with_len}
use Rattle.group_defs.specs.Below.{is_some_and, Update, Remove, Value, Batch, Keep, Ack, EndAt, LastAt}
use Rattle.group_defs.specs.Views.{is_possible}
use Rattle.group_defs.specs.Process.{Setting, Pool, Process, keyed, places_in}
use Rattle.group_defs.specs.Certified.{heard_on, number_of_members, is_notified, is_certified, place_at, removed_rank, fixed_length}
use Rattle.group_defs.specs.Values.{is_quorum, length_said, ends, is_free, free_value, ready_said, lasts, is_first_way, is_second_way, adopted, choose}
use Rattle.group_defs.specs.Due.{same_value, are_certified}
use Rattle.group_defs.specs.Settle.{decided_at, decided_by, deliverable}
use Rattle.rule_laws.specs.Heard.{IsPool}
use Rattle.pool_laws.specs.Least.{IsLeastFrom, IsLeastBelow, IsGreatestBelow}
use Rattle.rule_laws.specs.Perceived.{update_at, most_updates}
use Rattle.rule_laws.specs.Ranks.{acked}

-- ---- free values

-- the update may end the view: more than f members notify it, and it is possible
abbrev pub may_update : Setting → Pool → Update → Bool
may_update s h u = is_notified h u && is_possible (keyed s) h.view u

-- the cut may end it: a quorum say Ends of at most the cut, and one of them the cut itself; and the last place below it is certified,
-- unless it is 0
abbrev pub may_cut : Pool → ℕ → Bool
may_cut h k = is_quorum h (count_by (λ e. nat_le e k) (ends h)) && list_any (λ e. e == k) (ends h)
    && ((k == 0) || is_some (place_at h (k - 1)))

-- a value is free where its update and its cut may end the view
abbrev pub FreeInParts : Type 0
FreeInParts = (s : Setting) (h : Pool) (v : Value) → is_free s h v ≡ (may_update s h v.update && may_cut h v.cut)

-- what the member's End says
abbrev pub end_of : Pool → ℕ → Option ℕ
end_of h m = option_and_then length_said (heard_on h m (EndAt h.view.number))

-- how many Ends pass a test, and whether one does, counted by the members
abbrev pub EndsByMember : Type 0
EndsByMember = (h : Pool) (test : ℕ → Bool) → (count_by test (ends h) ≡ count_by (λ m. is_some_and (end_of h m) test) h.view.members)
    × (list_any test (ends h) ≡ list_any (λ m. is_some_and (end_of h m) test) h.view.members)

-- the least cut that the members of the ranks below n say and that may end the view; none where none may
abbrev pub IsLeastCut : Pool → ℕ → Option ℕ → Type 0
IsLeastCut h n None = (r m k : ℕ) → r < n → slice_get h.view.members r ≡ Some m → end_of h m ≡ Some k → IsFalse (may_cut h k)
IsLeastCut h n (Some cut) = ((r : ℕ) × (m : ℕ) × (r < n) × (slice_get h.view.members r ≡ Some m) × (end_of h m ≡ Some cut))
    × IsTrue (may_cut h cut)
    × ((r m k : ℕ) → r < n → slice_get h.view.members r ≡ Some m → end_of h m ≡ Some k → IsTrue (may_cut h k) → cut ≤ k)

-- the free value is of the least update and of the least cut that may end the view
abbrev pub FreeValueIs : Type 0
FreeValueIs = (s : Setting) (h : Pool) (update cut : Option ℕ) → IsPool h
    → IsLeastBelow most_updates (λ i. may_update s h (update_at i)) update → IsLeastCut h (number_of_members h) cut
    → free_value s h ≡ option_and_then (λ i. option_map (λ k. record { update = update_at i; cut = k }) cut) update

-- ---- values that an earlier rank may have decided

-- what the member's Last at r says
abbrev pub last_of : Pool → ℕ → ℕ → Option (Option (ℕ × Value))
last_of h r m = option_and_then ready_said (heard_on h m (LastAt h.view.number r))

-- how many Lasts at r pass a test, and whether one does, counted by the members
abbrev pub LastsByMember : Type 0
LastsByMember = (h : Pool) (r : ℕ) (test : Option (ℕ × Value) → Bool)
    → (count_by test (lasts h r) ≡ count_by (λ m. is_some_and (last_of h r m) test) h.view.members)
    × (list_any test (lasts h r) ≡ list_any (λ m. is_some_and (last_of h r m) test) h.view.members)

-- an Ack is certified where its value is the one of its rank's certified Ack
abbrev pub AckedIs : Type 0
AckedIs = (h : Pool) (r : ℕ) (v : Value) → IsPool h → is_certified h (Ack h.view.number r v) ≡ is_some_and (acked h r) (same_value v)

-- the second way at r0 leads to the value of the certified Ack of r0, or to none
abbrev pub AdoptedIs : Type 0
AdoptedIs = (h : Pool) (r r0 : ℕ) → IsPool h
    → adopted h r r0 ≡ option_and_then (λ v. if is_second_way h r r0 v then Some v else None) (acked h r0)

-- the value of the greatest such rank is chosen; where there is none, the free value, where no earlier rank may have decided
abbrev pub ChooseIs : Type 0
ChooseIs = (s : Setting) (h : Pool) (r : ℕ) (o : Option ℕ) → IsPool h
    → IsGreatestBelow r (λ r0. is_some_and (acked h r0) (is_second_way h r r0)) o
    → choose s h r ≡ (elim o [ None ↦ (if is_first_way h r then free_value s h else None) | Some r0 ↦ acked h r0 ])

-- some number below n passes where the least of them is found
abbrev pub AnyIsFound : Type 0
AnyIsFound = (n : ℕ) (test : ℕ → Bool) (o : Option ℕ) → IsLeastBelow n test o → list_any test (range_with_len 0 n) ≡ is_some o

-- candidates from a on are looked at one by one, where none below a passes both tests: without another, none does; the next one is the
-- least that does, or none up to that number does
abbrev pub NextCandidate : Type 0
NextCandidate = (a n : ℕ) (test more : ℕ → Bool) (o : Option ℕ) → ((j : ℕ) → j < a → IsFalse (test j && more j)) → IsLeastFrom a n test o
    → (elim o [
      | None ↦ IsLeastBelow n (λ j. test j && more j) None
      | Some k ↦ (IsTrue (more k) → IsLeastBelow n (λ j. test j && more j) (Some k))
          × (IsFalse (more k) → (j : ℕ) → j < suc k → IsFalse (test j && more j))
    ])

-- each member of a lower rank is to be removed where the removed rank is not below it
abbrev pub RemovedBelow : Type 0
RemovedBelow = (h : Pool) (r : ℕ) → r < number_of_members h
    → nat_le r (removed_rank h) ≡ list_all (λ m. is_notified h (Remove m)) (take r h.view.members)

-- ---- settling

-- the view is decided at the least rank that decides
abbrev pub DecidedIs : Type 0
DecidedIs = (s : Setting) (h : Pool) (o : Option ℕ) → IsLeastBelow (number_of_members h) (λ r. is_some (decided_at s h r)) o
    → decided_by s h ≡ option_and_then (decided_at s h) o

-- the next place may be delivered where it is certified and each of its messages is
abbrev pub DeliverableIs : Type 0
DeliverableIs = (p : Process) → is_some (deliverable p) ≡ is_some_and (place_at p.pool (places_in p.delivered)) (are_certified p.pool)

-- each place whose Keep is certified is below the length, and where it is not 0, the last place below it is one
pub record IsFixedLength (h : Pool) (n : ℕ) : Type 0 where
  pub beyond : (x k : ℕ) (b : Batch) → IsTrue (is_certified h (Keep x k b)) → k < n
  pub last : (n ≡ 0) ⊎ ((x k : ℕ) × (b : Batch) × (n ≡ suc k) × IsTrue (is_certified h (Keep x k b)))

-- it is the fixed length
abbrev pub FixedLengthIs : Type 0
FixedLengthIs = (h : Pool) → IsPool h → IsFixedLength h (fixed_length h)
