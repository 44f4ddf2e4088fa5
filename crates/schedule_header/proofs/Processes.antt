-- Reading processes and members one after the other, and the sets of them, as loops do.
use Rattle.std.proofs.Common.{◌≡◌, ℕ, suc, ◌+◌, ◌-◌, ◌<◌, ◌≤◌, Bool, true, false, eqb, List, [], ◌∷◌, ◌++◌, length, get_or, take, map, Ok, Err, refl, sym, ap, ◌∙◌, append_assoc, arith, inl, inr}
use Rattle.std.specs.Prelude.{◌||◌, ◌&&◌, not}
use Rattle.std.specs.List.{list_any}
use Rattle.std.proofs.lemmas.Bool.{cases_lt, cases_eq, lt-ltb, le-ltb, eq-eqb, ne_eqb}
use Rattle.std.proofs.lemmas.List.{append-nil, map_more}
use Rattle.replay_defs.specs.declared.FaultKind.TheVariants as faults
use Rattle.replay_defs.specs.declared.Found.{Found}
use Rattle.replay_defs.specs.declared.Scheme.{Scheme}
use Rattle.byte_defs.specs.Fields.{◌>>=◌}
use Rattle.byte_defs.specs.Members.{has}
use Rattle.rp_base.specs.Pids.{put_once}
use Rattle.replay_defs.specs.Schedules.{Listed}
use Rattle.replay_defs.specs.Reading.{Step, process_that, listed_at, all_listed_at, members_at}

-- ---- processes

-- what was read before, and what is still read
abbrev pub from_here : List Listed → Step (List Listed) → Step (List Listed)
from_here before (Ok more) = Ok (before ++ more.0, more.1)
from_here before (Err e) = Err e

pub begins : (read : Step (List Listed)) → from_here [] read ≡ read
begins (Ok more) = refl
begins (Err e) = refl

regroup : (before : List Listed) (l : Listed) (read : Step (List Listed))
    → from_here before (read >>= λ others. Ok (l ∷ others.0, others.1)) ≡ from_here (before ++ l ∷ []) read
regroup before l (Ok more) = ap (λ (ls : List Listed). Ok (ls, more.1)) (sym (append_assoc before (l ∷ []) more.0))
regroup before l (Err e) = refl

pub one_more : (count i : ℕ) (scheme : Scheme) (least : ℕ) (bytes : List ℕ) (l : Listed) (after : List ℕ) (before : List Listed)
    (all : Step (List Listed)) → i < count → listed_at scheme least bytes ≡ Ok (l, after)
    → from_here before (all_listed_at (count - i) scheme least bytes) ≡ all
    → from_here (before ++ l ∷ []) (all_listed_at (count - (i + 1)) scheme (l.process + 1) after) ≡ all
unfolding all_listed_at
one_more count i scheme least bytes l after before all lt e so_far =
    let k : count - i ≡ suc (count - (i + 1)) = omega arith in
    sym (regroup before l (all_listed_at (count - (i + 1)) scheme (l.process + 1) after)) ∙ sym (rw (k, e) refl) ∙ so_far

pub fails : (count i : ℕ) (scheme : Scheme) (least : ℕ) (bytes : List ℕ) (f : Found) (before : List Listed) (all : Step (List Listed))
    → i < count → listed_at scheme least bytes ≡ Err f
    → from_here before (all_listed_at (count - i) scheme least bytes) ≡ all → all ≡ Err f
unfolding all_listed_at
fails count i scheme least bytes f before all lt e so_far =
    let k : count - i ≡ suc (count - (i + 1)) = omega arith in
    sym so_far ∙ rw (k, e) refl

pub is_done : (count i : ℕ) (scheme : Scheme) (least : ℕ) (bytes : List ℕ) (before : List Listed) (all : Step (List Listed)) → count ≤ i
    → from_here before (all_listed_at (count - i) scheme least bytes) ≡ all → all ≡ Ok (before, bytes)
unfolding all_listed_at
is_done count i scheme least bytes before all le so_far =
    let k : count - i ≡ 0 = omega arith in
    sym so_far ∙ rw k (ap (λ (ls : List Listed). Ok (ls, bytes)) (append-nil before))

-- ---- members

pub one_member : (count i : ℕ) (listed : ℕ → Bool) (before : List ℕ) (bytes : List ℕ) (m : ℕ) (after : List ℕ) (all : Step (List ℕ))
    → i < count → process_that (λ m. listed m && not (has before m)) faults.Roster bytes ≡ Ok (m, after)
    → members_at (count - i) listed before bytes ≡ all → members_at (count - (i + 1)) listed (before ++ m ∷ []) after ≡ all
unfolding members_at
one_member count i listed before bytes m after all lt e so_far =
    let k : count - i ≡ suc (count - (i + 1)) = omega arith in
    sym (rw (k, e) refl) ∙ so_far

pub no_member : (count i : ℕ) (listed : ℕ → Bool) (before bytes : List ℕ) (f : Found) (all : Step (List ℕ)) → i < count
    → process_that (λ m. listed m && not (has before m)) faults.Roster bytes ≡ Err f
    → members_at (count - i) listed before bytes ≡ all → all ≡ Err f
unfolding members_at
no_member count i listed before bytes f all lt e so_far =
    let k : count - i ≡ suc (count - (i + 1)) = omega arith in
    sym so_far ∙ rw (k, e) refl

pub all_members : (count i : ℕ) (listed : ℕ → Bool) (before bytes : List ℕ) (all : Step (List ℕ)) → count ≤ i
    → members_at (count - i) listed before bytes ≡ all → all ≡ Ok (before, bytes)
unfolding members_at
all_members count i listed before bytes all le so_far =
    let k : count - i ≡ 0 = omega arith in
    sym so_far ∙ rw k refl

-- ---- sets

or_swap : (a b c : Bool) → (a || (b || c)) ≡ (b || (a || c))
or_swap true true c = refl
or_swap true false c = refl
or_swap false true c = refl
or_swap false false c = refl

or_twice : (a b : Bool) → (a || b) ≡ (a || (a || b))
or_twice true b = refl
or_twice false b = refl

-- the process that was put in, and those before
pub has-put_once : (p : ℕ) (qs : List ℕ) (n : ℕ) → has (put_once p qs) n ≡ (eqb p n || has qs n)
has-put_once p [] n = refl
has-put_once p (q ∷ qs) n =
    elim (cases_lt q p) [
      | inl lt ↦ rw (lt-ltb q p lt) (ap (λ (b : Bool). eqb q n || b) (has-put_once p qs n) ∙ or_swap (eqb q n) (eqb p n) (has qs n))
      | inr le ↦ rw (le-ltb q p le) (elim (cases_eq q p) [
        | inl e ↦ rw (eq-eqb q p e, e) (or_twice (eqb p n) (has qs n))
        | inr ne ↦ rw (ne_eqb q p ne) refl
      ])
    ]

pub list_any-snoc : {A : Type 0} (test : A → Bool) (xs : List A) (x : A) → list_any test (xs ++ x ∷ []) ≡ (test x || list_any test xs)
list_any-snoc test [] x = refl
list_any-snoc test (y ∷ ys) x = ap (λ (b : Bool). test y || b) (list_any-snoc test ys x) ∙ or_swap (test y) (test x) (list_any test ys)

-- a test of the views of one more element
pub list_any-next : {X Y : Type 0} (view : X → Y) (test : Y → Bool) (xs : List X) (i : ℕ) (x : X) → i < length xs → x ≡ get_or xs i x
    → list_any test (map view (take (i + 1) xs)) ≡ (test (view x) || list_any test (map view (take i xs)))
list_any-next view test xs i x lt is = rw (map_more view xs i x lt, ← is) (list_any-snoc test (map view (take i xs)) (view x))

-- a correct process is taken, another passed over
pub takes_correct : (same b c : Bool) → b ≡ c → (same || b) ≡ ((same && true) || c)
takes_correct true b c e = refl
takes_correct false b c e = e

pub passes_corrupt : (same b c : Bool) → b ≡ c → b ≡ ((same && false) || c)
passes_corrupt true b c e = e
passes_corrupt false b c e = e
