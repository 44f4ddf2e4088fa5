-- A certificate by which a view was left shows the view after it.
use Rattle.std.proofs.Common.{◌≡◌, ◌≢◌, ℕ, zero, suc, ◌+◌, ◌<◌, ◌≤◌, List, [], ◌∷◌, ◌++◌, length, map, Bool, true, false, Option, Some, None, Ok, refl, sym, ap, ◌∙◌, subst, arith, inl, inr, slice_get}
use Rattle.std.specs.Prelude.{if◌then◌else◌, ◌==◌, ◌&&◌, filter, find, is_none, option_map, option_and_then, slice_index, IsTrue, Err}
use Rattle.std.specs.List.{range_with_len}
use Rattle.std.specs.List.Sorted.{IsStrictlyIncreasing}
use Rattle.std.proofs.lemmas.Bool.{eq-eqb, eqb-true, eqb-false, le-leb}
use Rattle.std.proofs.lemmas.List.{length-map}
use Rattle.byte_defs.specs.Choices.{first_some, is_some_and}
use Rattle.message_defs.specs.Limits.{last_rank}
use Rattle.message_defs.specs.Updates.{Value}
use Rattle.message_defs.specs.Statements.{Statement, Ready, ReadyAt, Claim, Slot, slot_of, view_of, value_of, same_slot, same_statement}
use Rattle.group_defs.specs.Views.{View, IsView, is_member, quorum, is_possible, has_keys, next_fault, next_view}
use Rattle.group_defs.proofs.FollowingViews.{next_is_view}
use Rattle.group_defs.specs.Process.{Setting, Pool, Delivered, Left, Process, keyed, start, deliveries_of}
use Rattle.group_defs.specs.Certified.{says, backers, is_certified, certified_on, number_of_members}
use Rattle.group_defs.specs.Hearing.{is_valid}
use Rattle.group_defs.specs.Settle.{decided_at}
use Rattle.group_defs.specs.Events.{run}
use Rattle.pool_laws.proofs.Members.{Mem, All-mem, find-is, list_any-mem, map-mem, mem-filter, mem-find}
use Rattle.pool_laws.proofs.Places.{Pairs, slice_get-mem}
use Rattle.pool_laws.proofs.Slots.{is-same_slot, same_slot-is, is-same_statement}
use Rattle.pool_laws.proofs.Tests.{and-first, both-true, none-is, some-same}
use Rattle.event_laws.proofs.Slots.{few-different}
use Rattle.chain_defs.specs.Advance.{is_ready, counts, counted, most_agreeing, shown, shows}
use Rattle.chain_defs.specs.declared.ChainFault.TheVariants as faults
use Rattle.image_defs.specs.Images.{LeftView, left_by, lefts_from, view_behind, first_list, other_lists}
use Rattle.image_defs.specs.Kept.{IsLeft, AreLeft}
use Rattle.image_laws.proofs.Restoring.{process_is_restored}
use Rattle.image_laws.proofs.Making.{lefts-fit}
use Rattle.chain_laws.specs.Commits.{CommitShows}

-- ---- lists

filter-all : {A : Type 0} (test : A → Bool) (xs : List A) → ((x : A) → Mem x xs → test x ≡ true) → filter test xs ≡ xs
filter-all test [] all = refl
filter-all test (x ∷ xs) all = go (test x) (all x (inl refl)) (filter-all test xs (λ y m. all y (inr m)))
  where
    go : (b : Bool) → b ≡ true → filter test xs ≡ xs → (if b then x ∷ filter test xs else filter test xs) ≡ x ∷ xs
    go true e rest = ap (λ ys. x ∷ ys) rest
    go false e rest = absurd cc

filter-none : {A : Type 0} (test : A → Bool) (xs : List A) → ((x : A) → Mem x xs → test x ≡ false) → filter test xs ≡ []
filter-none test [] none = refl
filter-none test (x ∷ xs) none = go (test x) (none x (inl refl)) (filter-none test xs (λ y m. none y (inr m)))
  where
    go : (b : Bool) → b ≡ false → filter test xs ≡ [] → (if b then x ∷ filter test xs else filter test xs) ≡ []
    go true e rest = absurd cc
    go false e rest = rest

find-first : {A : Type 0} (test : A → Bool) (xs : List A) (y : A) → 0 < length xs → ((x : A) → Mem x xs → x ≡ y) → test y ≡ true
    → find test xs ≡ Some y
find-first test [] y some all holds = absurd (omega (arith, some))
find-first test (x ∷ xs) y some all holds = go (test x) (ap test (all x (inl refl)) ∙ holds)
  where
    go : (b : Bool) → b ≡ true → (if b then Some x else find test xs) ≡ Some y
    go true e = ap Some (all x (inl refl))
    go false e = absurd cc

first-at : {A : Type 0} (g : ℕ → Option A) (a n r : ℕ) (y : A) → ((j : ℕ) → a ≤ j → j < r → g j ≡ None) → g r ≡ Some y → a ≤ r → r < a + n
    → first_some g (range_with_len a n) ≡ Some y
first-at g a zero r y none is le lt = absurd (omega (arith, le, lt))
first-at {A} g a (suc n) r y none is le lt =
    go (a == r) refl (λ before. first-at g (a + 1) n r y (λ j above below. none j (omega (arith, above)) below) is (omega (arith, before)) (omega (arith, lt)))
  where
    go : (b : Bool) → (a == r) ≡ b → (a < r → first_some g (range_with_len (a + 1) n) ≡ Some y) → first_some g (range_with_len a (suc n)) ≡ Some y
    go true e rest =
        let here : g a ≡ Some y = ap g (eqb-true a r e) ∙ is in
        ap (λ (o : Option A). elim o [ None ↦ first_some g (range_with_len (a + 1) n) | Some z ↦ Some z ]) here
    go false e rest =
        let before : a < r = (let other = eqb-false a r e in apart-less a r le other) in
        ap (λ (o : Option A). elim o [ None ↦ first_some g (range_with_len (a + 1) n) | Some z ↦ Some z ]) (none a (omega arith) before)
        ∙ rest before
      where
        apart-less : (m n : ℕ) → m ≤ n → (m ≡ n → ⊥) → m < n
        apart-less m n le other = omega (arith, le, other)

pub rising-tail : (n : ℕ) (ns : List ℕ) → IsStrictlyIncreasing (n ∷ ns) → IsStrictlyIncreasing ns
rising-tail n ns up k lt =
    let next : suc k + 1 ≡ suc (k + 1) = omega arith in
    subst (λ j. slice_index ns k < slice_index (n ∷ ns) j) next (up (suc k) (omega (arith, lt)))

pub rising-above : (n : ℕ) (ns : List ℕ) → IsStrictlyIncreasing (n ∷ ns) → (m : ℕ) → Mem m ns → n < m
rising-above n [] up m there = absurd there
rising-above n (k ∷ ks) up m there =
    let first : n < k = up 0 (omega arith) in
    elim there [
      | inl is ↦ subst (λ m. n < m) is first
      | inr later ↦ let above = rising-above k ks (rising-tail n (k ∷ ks) up) m later in omega (arith, first, above)
    ]

increasing-get : (xs : List ℕ) → IsStrictlyIncreasing xs → (i j a b : ℕ) → i < j → slice_get xs i ≡ Some a → slice_get xs j ≡ Some b → a < b
increasing-get [] up i j a b lt at_i at_j = absurd cc
increasing-get (x ∷ xs) up zero zero a b lt at_i at_j = absurd (omega (arith, lt))
increasing-get (x ∷ xs) up zero (suc j) a b lt at_i at_j = subst (λ y. y < b) (some-same x a at_i) (rising-above x xs up b (slice_get-mem xs j b at_j))
increasing-get (x ∷ xs) up (suc i) zero a b lt at_i at_j = absurd (omega (arith, lt))
increasing-get (x ∷ xs) up (suc i) (suc j) a b lt at_i at_j = increasing-get xs (rising-tail x xs up) i j a b (omega (arith, lt)) at_i at_j

-- ---- one view

module _ (s : Setting) (v : View) (l : LeftView) (view : IsView v) (is : IsLeft s v l) where
  abbrev st : Statement
  st = Ready v.number l.rank l.value

  abbrev h : Pool
  h = record { view = v; heard = l.commit }

  of-each : (c : Claim) → Mem c l.commit → IsTrue (is_member v c.signer) × (c.statement ≡ st) × IsTrue (is_valid s c)
  of-each c m = All-mem (λ (c : Claim). IsTrue (is_member v c.signer) × (c.statement ≡ Ready v.number l.rank l.value) × IsTrue (is_valid s c)) l.commit c is.each m

  counts-each : (c : Claim) → Mem c l.commit → counts s v c ≡ true
  counts-each c m =
      let of = of-each c m in
      both-true _ _ (both-true _ _ (both-true _ _ (ap is_ready of.1) (ap (λ (x : Statement). view_of x == v.number) of.1 ∙ eq-eqb v.number v.number refl)) of.0) of.2

  counted-is : counted s v l.commit ≡ h
  counted-is = ap (λ cs. record { view = v; heard = cs }) (filter-all (counts s v) l.commit counts-each)

  some : 0 < length l.commit
  some = least (length v.members) (length l.commit) view.some is.many
    where
      least : (n k : ℕ) → 1 ≤ n → k ≡ quorum n → 0 < k
      least n k some' many = omega (arith, some', many)

  abbrev statements : List Statement
  statements = map (λ (c : Claim). c.statement) l.commit

  each-is : (x : Statement) → Mem x statements → x ≡ st
  each-is x m = let c = map-mem (λ (c : Claim). c.statement) l.commit x m in sym c.2 ∙ (of-each c.0 c.1).1

  -- a signer backs it
  signer-says : (c : Claim) → Mem c l.commit → says h st c.signer ≡ true
  signer-says c m =
      let test : Claim → Bool = (λ d. (d.signer == c.signer) && same_slot (slot_of d.statement) (slot_of st)) in
      let found = mem-find (λ d. (d.signer == c.signer) && same_slot (slot_of d.statement) (slot_of st)) l.commit c m
      (both-true _ _ (eq-eqb c.signer c.signer refl) (is-same_slot (slot_of c.statement) (slot_of st) (ap slot_of (of-each c m).1))) in
      let there = find-is (λ d. (d.signer == c.signer) && same_slot (slot_of d.statement) (slot_of st)) l.commit found.0 found.1 in
      ap (λ (o : Option Claim). is_some_and (option_map (λ (d : Claim). d.statement) o) (same_statement st)) found.1
      ∙ is-same_statement st found.0.statement (sym (of-each found.0 there.0).1)

  signers-apart : Pairs (λ a b. a ≢ b) (map (λ (c : Claim). c.signer) l.commit)
  signers-apart i j a b lt at_i at_j = λ same. (let up = rises i j a b lt at_i at_j in omega (arith, up, same))
    where
      rises : (i j a b : ℕ) → i < j → slice_get (map (λ (c : Claim). c.signer) l.commit) i ≡ Some a
          → slice_get (map (λ (c : Claim). c.signer) l.commit) j ≡ Some b → a < b
      rises i j a b lt at_i at_j = increasing-get (map (λ (c : Claim). c.signer) l.commit) is.rising i j a b lt at_i at_j

  certified : is_certified h st ≡ true
  certified =
      let enough : length (map (λ (c : Claim). c.signer) l.commit) ≤ length (backers h st)
      = few-different (λ (q : ℕ). q) (map (λ (c : Claim). c.signer) l.commit) (backers h st) signers-apart backs in
      let many = is.many in
      let long = length-map l.commit (λ (c : Claim). c.signer) in
      le-leb (quorum (number_of_members h)) (length (backers h st)) (omega (arith, enough, many, long))
    where
      backs : (q : ℕ) → Mem q (map (λ (c : Claim). c.signer) l.commit) → Mem q (backers h st)
      backs q m =
          let c = map-mem (λ (c : Claim). c.signer) l.commit q m in
          let member = list_any-mem (λ p. p == c.0.signer) v.members (of-each c.0 c.1).0 in
          let there : Mem c.0.signer v.members = subst (λ p. Mem p v.members) (eqb-true member.0 c.0.signer member.2) member.1 in
          subst (λ p. Mem p (backers h st)) c.2 (mem-filter (says h st) v.members c.0.signer there (signer-says c.0 c.1))

  at-rank : decided_at s h l.rank ≡ Some (l.rank, l.value)
  at-rank =
      let on : filter (λ x. same_slot (slot_of x) (ReadyAt v.number l.rank)) statements ≡ statements
      = filter-all (λ x. same_slot (slot_of x) (ReadyAt v.number l.rank)) statements
      (λ x m. is-same_slot (slot_of x) (ReadyAt v.number l.rank) (ap slot_of (each-is x m))) in
      let found : certified_on h (ReadyAt v.number l.rank) ≡ Some st
      = ap (find (is_certified h)) on ∙ find-first (is_certified h) statements st
      (let long = length-map l.commit (λ (c : Claim). c.statement) in let pos = some in omega (arith, long, pos)) each-is certified in
      ap (λ (o : Option Statement). option_and_then (λ (w : Value). if is_possible (keyed s) v w.update then Some (l.rank, w) else None) (option_and_then value_of o)) found
      ∙ ap (λ b. if b then Some (l.rank, l.value) else None) is.possible

  below-rank : (j : ℕ) → 0 ≤ j → j < l.rank → decided_at s h j ≡ None
  below-rank j le lt =
      let on : filter (λ x. same_slot (slot_of x) (ReadyAt v.number j)) statements ≡ []
      = filter-none (λ x. same_slot (slot_of x) (ReadyAt v.number j)) statements
      (λ x m. ap (λ (y : Statement). same_slot (slot_of y) (ReadyAt v.number j)) (each-is x m) ∙ other (same_slot (slot_of st) (ReadyAt v.number j)) refl) in
      ap (λ (xs : List Statement). option_and_then (λ (w : Value). if is_possible (keyed s) v w.update then Some (j, w) else None) (option_and_then value_of (find (is_certified h) xs))) on
    where
      rank-in : Slot → ℕ
      rank-in (ReadyAt x r) = r
      rank-in _ = 0

      other : (b : Bool) → same_slot (slot_of st) (ReadyAt v.number j) ≡ b → same_slot (slot_of st) (ReadyAt v.number j) ≡ false
      other true e = absurd (let same = ap rank-in (same_slot-is (slot_of st) (ReadyAt v.number j) e) in omega (arith, same, lt))
      other false e = e

  pub shows-it : shows s v l.commit ≡ Ok (next_view v l.value.update)
  shows-it =
      let few = view.few in
      let rank = is.rank in
      let found : shown s v l.commit ≡ Some (l.rank, l.value)
      = ap (λ (g : Pool). first_some (decided_at s g) (range_with_len 0 (last_rank + 1))) counted-is
      ∙ first-at (decided_at s h) 0 (last_rank + 1) l.rank (l.rank, l.value) below-rank at-rank (omega arith) (omega (arith, few, rank)) in
      ap (λ (o : Option (ℕ × Value)). elim o [ None ↦ Err (faults.Few (most_agreeing (counted s v l.commit))) | Some d ↦ Ok (next_view v d.1.update) ]) found

-- ---- each view after the other

pub follows : (s : Setting) (v : View) (l : LeftView) → IsView v → IsLeft s v l → IsView (next_view v l.value.update)
follows s v l view is = next_is_view v l.value.update
    (none-is (next_fault v l.value.update) (and-first (is_none (next_fault v l.value.update)) (has_keys (keyed s) l.value.update) is.possible)) view

abbrev after-all : View → List LeftView → List (List Delivered) → List View
after-all v ls ds = map (λ (l : Left). l.view) (lefts_from v ls ds) ++ view_behind v ls ∷ []

next-is : (v : View) (ls : List LeftView) (ds : List (List Delivered)) (w : View) → slice_get (after-all v ls ds) 0 ≡ Some w → v ≡ w
next-is v [] ds w e = some-same v w e
next-is v (l ∷ ls) ds w e = some-same v w e

each-shows : (s : Setting) (v : View) (ls : List LeftView) (ds : List (List Delivered)) → IsView v → AreLeft s v ls → (i : ℕ) (l : Left) (w : View)
    → slice_get (lefts_from v ls ds) i ≡ Some l → slice_get (after-all v ls ds) (suc i) ≡ Some w → shows s l.view l.commit ≡ Ok w
each-shows s v [] ds view are i l w at next = absurd cc
each-shows s v (x ∷ ls) ds view are zero l w at next =
    let here : record { view = v; delivered = first_list ds; commit = x.commit } ≡ l = some-same _ l at in
    subst (λ (k : Left). shows s k.view k.commit ≡ Ok w) here
    (shows-it s v x view are.0 ∙ ap Ok (next-is (next_view v x.value.update) ls (other_lists ds) w next))
each-shows s v (x ∷ ls) ds view are (suc i) l w at next =
    each-shows s (next_view v x.value.update) ls (other_lists ds) (follows s v x view are.0) are.1 i l w at next

pub commit_shows : CommitShows
commit_shows s me limit turns view valid i l w at next =
    let fits = lefts-fit s me limit turns view valid in
    let restored = process_is_restored s me limit turns view in
    let lefts : lefts_from s.genesis (map (λ l. left_by l.commit) (run s (start s me limit) turns).left) (deliveries_of (run s (start s me limit) turns))
    ≡ (run s (start s me limit) turns).left = ap (λ (q : Process). q.left) restored in
    let one : suc i ≡ i + 1 = omega arith in
    each-shows s s.genesis (map (λ l. left_by l.commit) (run s (start s me limit) turns).left) (deliveries_of (run s (start s me limit) turns)) view fits.left i l w
    (ap (λ (ls : List Left). slice_get ls i) lefts ∙ at)
    ((λ j. slice_get (map (λ (k : Left). k.view) (lefts j) ++ fits.current j ∷ []) (one j)) ∙ next)
