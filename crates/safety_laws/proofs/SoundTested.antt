-- What the report computes of cause and order says it, of accounts with one delivered list of each view.
use Rattle.std.proofs.Common.{◌≡◌, ◌⊎◌, inl, inr, ℕ, zero, suc, ◌+◌, ◌≤◌, List, [], ◌∷◌, ◌++◌, map, length, take, Some, Bool, true, false, refl, sym, ap, ◌∙◌, subst, arith, slice_get}
use Rattle.std.specs.Prelude.{if◌then◌else◌, ◌&&◌, ◌==◌, min, nat_lt, nat_le, filter, flat_map, All, Contains}
use Rattle.std.specs.List.{list_all, range_with_len}
use Rattle.std.proofs.lemmas.Bool.{eqb-true, eq-eqb, leb-true, le-leb, ltb-true, ltb-false}
use Rattle.std.proofs.lemmas.List.{length-map}
use Rattle.group_defs.specs.Below.{is_yes, bytes_discrete, Update, Batch-discrete}
use Rattle.group_defs.specs.Views.{View, is_member, next_view, is_possible}
use Rattle.group_defs.specs.Process.{Letter, Delivered, places_in, without_places}
use Rattle.group_defs.specs.Accounts.{Account, Group, group_of, longest, delivered_in, messages_in, at_place, batch_at, IsByPlace, HaveSameBatches, ArePlaced, HasListOfEachView, IsPrefixOf, HasCause, history, of_sender, Sound, neighbours, perceived_in, same_views, has_cause, is_in_order, is_sound_in, is_accepted, is_by_place, have_same_batches, are_placed_in, sound, SoundIsTested}
use Rattle.safety_laws.proofs.AgreeTested.{Decides, deliveries-decide, discrete-decides, is-prefix, is-same, prefix-is, same-is, same_delivered, same_view, views-decide}
use Rattle.safety_laws.proofs.InOrder.{Numbered, by_sender, numbered-once}
use Rattle.pool_laws.proofs.Members.{All-mem, Contains-mem, Mem, each-list_all, filter-mem, list_all-mem, list_any-mem, map-mem, mem-All, mem-Contains, mem-filter, mem-flat_map, mem-list_any, mem-map}
use Rattle.pool_laws.proofs.Places.{filter-at, index-beyond, longest-mem, longest-most, map-get, mem-range, range-get, range-mem}
use Rattle.pool_laws.proofs.Tests.{and-first, and-second, both-true, is-yes, yes-is}

numbers-decide : Decides (λ m n. m == n)
unfolding Decides
numbers-decide m n = (eqb-true m n, eq-eqb m n)

abbrev same_payload : List ℕ → List ℕ → Bool
same_payload b c = is_yes (bytes_discrete b c)

payloads-decide : Decides same_payload
payloads-decide = discrete-decides bytes_discrete

-- ---- causes

pub neighbours-at : {A : Type 0} (xs : List A) (a b : A) → Mem (a, b) (neighbours xs)
    → (i : ℕ) × (slice_get xs i ≡ Some a) × (slice_get xs (i + 1) ≡ Some b)
neighbours-at [] a b m = absurd m
neighbours-at (x ∷ []) a b m = absurd m
neighbours-at {A} (x ∷ y ∷ more) a b m = go m (neighbours-at (y ∷ more) a b)
  where
    first : (p q : A × A) → p ≡ q → (p.0 ≡ q.0) × (p.1 ≡ q.1)
    first p q e = (ap (λ (p : A × A). p.0) e, ap (λ (p : A × A). p.1) e)

    go : let pair : A × A = (x, y) in let other : A × A = (a, b) in (pair ≡ other) ⊎ Mem (a, b) (neighbours (y ∷ more))
        → (Mem (a, b) (neighbours (y ∷ more)) → (i : ℕ) × (slice_get (y ∷ more) i ≡ Some a) × (slice_get (y ∷ more) (i + 1) ≡ Some b))
        → (i : ℕ) × (slice_get (x ∷ y ∷ more) i ≡ Some a) × (slice_get (x ∷ y ∷ more) (i + 1) ≡ Some b)
    go (inl e) rest = let is = first (x, y) (a, b) e in (zero, ap Some is.0, ap Some is.1)
    go (inr m) rest =
        let at = rest m in
        let same : suc at.0 + 1 ≡ suc (at.0 + 1) = omega arith in
        (suc at.0, at.1, ap (slice_get (x ∷ y ∷ more)) same ∙ at.2)

pub at-neighbours : {A : Type 0} (xs : List A) (i : ℕ) (a b : A) → slice_get xs i ≡ Some a → slice_get xs (i + 1) ≡ Some b
    → Mem (a, b) (neighbours xs)
at-neighbours [] i a b at next = absurd cc
at-neighbours (x ∷ []) zero a b at next = absurd cc
at-neighbours (x ∷ []) (suc i) a b at next = absurd cc
at-neighbours (x ∷ y ∷ more) zero a b at next = let x_is : x ≡ a = cc in let y_is : y ≡ b = cc in inl (λ i. (x_is i, y_is i))
at-neighbours (x ∷ y ∷ more) (suc i) a b at next = let same : suc i + 1
    ≡ suc (i + 1) = omega arith in inr (at-neighbours (y ∷ more) i a b at (ap (slice_get (x ∷ y ∷ more)) (sym same) ∙ next))

flat_map-mem : {A B : Type 0} (g : A → List B) (xs : List A) (y : B) → Mem y (flat_map g xs) → (x : A) × Mem x xs × Mem y (g x)
flat_map-mem g [] y m = absurd m
flat_map-mem {A} {B} g (x ∷ xs) y m = go (g x) (λ here. (x, inl refl, here)) m (flat_map-mem g xs y)
  where
    Found : Type 0
    Found = (z : A) × Mem z (x ∷ xs) × Mem y (g z)

    go : (ys : List B) → (Mem y ys → (z : A) × Mem z (x ∷ xs) × Mem y (g z)) → Mem y (ys ++ flat_map g xs)
        → (Mem y (flat_map g xs) → (z : A) × Mem z xs × Mem y (g z)) → (z : A) × Mem z (x ∷ xs) × Mem y (g z)
    go [] here m rest = let r = rest m in (r.0, inr r.1, r.2)
    go (z ∷ ys) here (inl e) rest = here (inl e)
    go (z ∷ ys) here (inr m) rest = go ys (λ n. here (inr n)) m rest

module _ (accounts : List Account) (keyed : List ℕ) (v : View) where
  abbrev perceived_by : Account → List Update
  perceived_by a = if is_member v a.me then map (λ e. e.1) (filter (λ e. e.0 == v.number) a.perceived) else []

  perceived-there : (u : Update) → Mem u (perceived_in accounts v)
      → (a : Account) × Mem a accounts × (is_member v a.me ≡ true) × Contains a.perceived (v.number, u)
  perceived-there u m = let a = flat_map-mem perceived_by accounts u m in go a.0 a.1 (is_member v a.0.me) refl a.2
    where
      go : (a : Account) → Mem a accounts → (b : Bool) → is_member v a.me ≡ b
          → Mem u (if b then map (λ (e : ℕ × Update). e.1) (filter (λ (e : ℕ × Update). e.0 == v.number) a.perceived) else [])
          → (a : Account) × Mem a accounts × (is_member v a.me ≡ true) × Contains a.perceived (v.number, u)
      go a there true member m =
          let e = map-mem (λ (e : ℕ × Update). e.1) (filter (λ (e : ℕ × Update). e.0 == v.number) a.perceived) u m in
          let in_list = filter-mem (λ (e : ℕ × Update). e.0 == v.number) a.perceived e.0 e.1 in
          let is : e.0 ≡ (v.number, u) = λ i. (eqb-true e.0.0 v.number in_list.1 i, e.2 i) in
          (a, there, member, mem-Contains a.perceived (v.number, u) (subst (λ e. Mem e a.perceived) is in_list.0))
      go a there false member m = absurd m

  there-perceived : (u : Update) (a : Account) → Mem a accounts → is_member v a.me ≡ true → Mem (v.number, u) a.perceived
      → Mem u (perceived_in accounts v)
  there-perceived u a there member m = mem-flat_map perceived_by accounts a u there (go (is_member v a.me) member)
    where
      go : (b : Bool) → b ≡ true → Mem u
          (if b then map (λ (e : ℕ × Update). e.1) (filter (λ (e : ℕ × Update). e.0 == v.number) a.perceived) else [])
      go true e = mem-map (λ (e : ℕ × Update). e.1) (filter (λ (e : ℕ × Update). e.0 == v.number) a.perceived) (v.number, u)
          (mem-filter (λ (e : ℕ × Update). e.0 == v.number) a.perceived (v.number, u) m (eq-eqb v.number v.number refl))
      go false e = absurd cc

  view-is : (w w' : View) → same_views (w ∷ []) (w' ∷ []) ≡ true → w ≡ w'
  view-is w w' e = head-is (same-is same_view views-decide (w ∷ []) (w' ∷ []) e)
    where
      head-is : w ∷ [] ≡ w' ∷ [] → w ≡ w'
      head-is e = cc

  abbrev is_cause : View → Update → Bool
  is_cause w u = is_possible keyed v u && same_views (w ∷ []) (next_view v u ∷ [])

  cause-there : (w : View) → has_cause accounts keyed (v, w) ≡ true → HasCause accounts keyed v w
  cause-there w e =
      let u = list_any-mem (is_cause w) (perceived_in accounts v) e in
      let by = perceived-there u.0 u.1 in
      record {
        update = u.0;
        possible = and-first (is_possible keyed v u.0) (same_views (w ∷ []) (next_view v u.0 ∷ [])) u.2;
        next = view-is w (next_view v u.0) (and-second (is_possible keyed v u.0) (same_views (w ∷ []) (next_view v u.0 ∷ [])) u.2);
        by = by.0;
        correct = mem-Contains accounts by.0 by.1;
        member = by.2;
        perceived = by.3;
      }

  there-cause : (w : View) → HasCause accounts keyed v w → has_cause accounts keyed (v, w) ≡ true
  there-cause w c = mem-list_any (is_cause w) (perceived_in accounts v) c.update
      (there-perceived c.update c.by (Contains-mem accounts c.by c.correct) c.member
      (Contains-mem c.by.perceived (v.number, c.update) c.perceived))
      (both-true (is_possible keyed v c.update)
      (same_views (w ∷ []) (next_view v c.update ∷ [])) c.possible
      (is-same same_view views-decide (w ∷ []) (next_view v c.update ∷ []) (ap (λ w. w ∷ []) c.next)))

-- ---- order

abbrev pub numbers_of : ℕ → List Letter → List ℕ
numbers_of sender ds = map (λ (d : Letter). d.message.number) (of_sender sender ds)

abbrev pub InOrder : List Letter → Type 0
InOrder ds = (sender : ℕ) → numbers_of sender ds ≡ range_with_len 0 (length (of_sender sender ds))

pub long-as : (sender : ℕ) (ds : List Letter) → length (numbers_of sender ds) ≡ length (of_sender sender ds)
long-as sender ds = length-map (of_sender sender ds) (λ (d : Letter). d.message.number)

pub order-there : (ds : List Letter) → list_all (λ d. is_in_order ds d.message.sender) ds ≡ true → InOrder ds
order-there ds e sender = go (of_sender sender ds) refl
  where
    go : (es : List Letter) → of_sender sender ds ≡ es → numbers_of sender ds ≡ range_with_len 0 (length (of_sender sender ds))
    go [] none = ap (map (λ (d : Letter). d.message.number)) none ∙ ap (range_with_len 0) (sym (ap length none))
    go (d ∷ es) some =
        let there = filter-mem (λ (d : Letter). d.message.sender == sender) ds d (subst (Mem d) (sym some) (inl refl)) in
        let tested : is_in_order ds sender
        ≡ true = ap (is_in_order ds) (sym (eqb-true d.message.sender sender there.1)) ∙ list_all-mem
        (λ (d : Letter). is_in_order ds d.message.sender) ds d e there.0 in
        same-is (λ m n. m == n) numbers-decide (numbers_of sender ds)
        (range_with_len 0 (length (numbers_of sender ds))) tested ∙ ap (range_with_len 0) (long-as sender ds)

pub there-order : (ds : List Letter) → InOrder ds → list_all (λ d. is_in_order ds d.message.sender) ds ≡ true
there-order ds order = each-list_all (λ (d : Letter). is_in_order ds d.message.sender) ds (λ d m.
    is-same (λ m n. m == n) numbers-decide (numbers_of d.message.sender ds) (range_with_len 0 (length (numbers_of d.message.sender ds)))
    (order d.message.sender ∙ ap (range_with_len 0) (sym (long-as d.message.sender ds))))

-- numbers in order say how many stood before
order-numbered : (ds : List Letter) → InOrder ds → Numbered (λ s. 0) ds
order-numbered ds order k d at =
    let sender : ℕ = d.message.sender in
    let i : ℕ = length (filter (by_sender sender) (take k ds)) in
    let there : slice_get (of_sender sender ds) i ≡ Some d = filter-at (by_sender sender) ds k d at (eq-eqb sender sender refl) in
    let number = map-get (λ (d : Letter). d.message.number) (of_sender sender ds) i d there in
    range-get 0 (length (of_sender sender ds)) i d.message.number (ap (λ ns. slice_get ns i) (sym (order sender)) ∙ number)

-- ---- places

pub stands-there : (ds : List Delivered) → is_by_place ds ≡ true → IsByPlace ds
stands-there ds e =
    let n : ℕ = places_in ds in
    let test : ℕ → Bool = λ k. nat_le 1 (length (at_place k ds)) && nat_le (length (at_place k ds)) 16 in
    record {
      together = same-is same_delivered deliveries-decide (flat_map (λ k. at_place k ds) (range_with_len 0 n)) ds
          (and-first _ (list_all test (range_with_len 0 n)) e);
      batches = λ k lt.
          let here = list_all-mem test (range_with_len 0 n) k (and-second _ (list_all test (range_with_len 0 n)) e)
          (range-mem 0 n k (omega arith) (omega (arith, lt))) in
          (leb-true 1 (length (at_place k ds)) (and-first _ _ here), leb-true (length (at_place k ds)) 16 (and-second _ _ here));
    }

pub there-stands : (ds : List Delivered) → IsByPlace ds → is_by_place ds ≡ true
there-stands ds so =
    let n : ℕ = places_in ds in
    both-true _ _ (is-same same_delivered deliveries-decide (flat_map (λ k. at_place k ds) (range_with_len 0 n)) ds so.together)
    (each-list_all (λ k. nat_le 1 (length (at_place k ds)) && nat_le (length (at_place k ds)) 16) (range_with_len 0 n)
    (λ k m. let lt = mem-range 0 n k m in let both = so.batches k (omega (arith, lt)) in both-true _ _
    (le-leb 1 (length (at_place k ds)) both.0) (le-leb (length (at_place k ds)) 16 both.1)))

pub batches-there : (ds es : List Delivered) → have_same_batches ds es ≡ true → HaveSameBatches ds es
batches-there ds es e k lt lt' =
    let few : ℕ = min (places_in ds) (places_in es) in
    yes-is (Batch-discrete (batch_at k ds) (batch_at k es))
    (list_all-mem (λ k. is_yes (Batch-discrete (batch_at k ds) (batch_at k es)))
    (range_with_len 0 few) k e (range-mem 0 few k (omega arith) (omega (arith, lt, lt'))))

pub there-batches : (ds es : List Delivered) → HaveSameBatches ds es → have_same_batches ds es ≡ true
there-batches ds es same =
    let few : ℕ = min (places_in ds) (places_in es) in
    each-list_all (λ k. is_yes (Batch-discrete (batch_at k ds) (batch_at k es))) (range_with_len 0 few)
    (λ k m. let lt = mem-range 0 few k m in is-yes (Batch-discrete (batch_at k ds) (batch_at k es))
    (same k (omega (arith, lt)) (omega (arith, lt))))

-- ---- the group

module _ (accounts : List Account) (full : All HasListOfEachView accounts) where
  abbrev g : Group
  g = group_of accounts

  longest-empty : {A : Type 0} (xss : List (List A)) → ((xs : List A) → Mem xs xss → xs ≡ []) → longest xss ≡ []
  longest-empty [] each = refl
  longest-empty (xs ∷ more) each = each (longest (xs ∷ more)) (longest-mem (xs ∷ more) xs (inl refl))

  -- nothing is delivered beyond the views
  none-beyond : (x : ℕ) → length g.views ≤ x → (a : Account) → Mem a accounts → delivered_in a x ≡ []
  none-beyond x le a m =
      let most = longest-most (map (λ (a : Account). a.views) accounts) a.views (mem-map (λ (a : Account). a.views) accounts a m) in
      let long : length a.delivered ≡ length a.views = All-mem HasListOfEachView accounts a full m in
      index-beyond a.delivered x [] (omega (arith, le, most, long))

  beyond : (x : ℕ) → length g.views ≤ x → g.sequence x ≡ []
  beyond x le = longest-empty (map (λ a. messages_in a x) accounts)
      (λ ds m. let a = map-mem (λ a. messages_in a x) accounts ds m in sym a.2 ∙ ap without_places (none-beyond x le a.0 a.1))

  in-order : list_all (is_sound_in g) (range_with_len 0 (length g.views)) ≡ true → (x : ℕ) → InOrder (g.sequence x)
  in-order e x = go (nat_lt x (length g.views)) refl
    where
      go : (b : Bool) → nat_lt x (length g.views) ≡ b → InOrder (g.sequence x)
      go true lt = order-there (g.sequence x)
          (list_all-mem (is_sound_in g) (range_with_len 0 (length g.views)) x e
          (range-mem 0 (length g.views) x (omega arith) (let less = ltb-true x (length g.views) lt in omega (arith, less))))
      go false ge = subst InOrder (sym (beyond x (ltb-false x (length g.views) ge))) (λ sender. refl)

  -- in the views that there are, and beyond them
  PlacedIn : ℕ → Type 0
  PlacedIn x = ((a : Account) → Mem a accounts → IsByPlace (delivered_in a x))
      × ((a b : Account) → Mem a accounts → Mem b accounts → HaveSameBatches (delivered_in a x) (delivered_in b x))

  placed-there : list_all (are_placed_in accounts) (range_with_len 0 (length g.views)) ≡ true → (x : ℕ) → PlacedIn x
  unfolding PlacedIn
  placed-there e x = go (nat_lt x (length g.views)) refl
    where
      nothing-stands : (ds : List Delivered) → ds ≡ [] → IsByPlace ds
      nothing-stands [] none = record { together = refl; batches = λ k lt. absurd (omega (arith, lt)) }
      nothing-stands (d ∷ ds) none = absurd cc

      nothing-shared : (ds es : List Delivered) → ds ≡ [] → HaveSameBatches ds es
      nothing-shared ds es none k lt lt' = absurd (let no' : places_in ds ≡ 0 = ap places_in none in omega (arith, no', lt))

      go : (b : Bool) → nat_lt x (length g.views) ≡ b → PlacedIn x
      go true lt =
          let tested = list_all-mem (are_placed_in accounts)
          (range_with_len 0 (length g.views)) x e
          (range-mem 0 (length g.views) x (omega arith) (let less = ltb-true x (length g.views) lt in omega (arith, less))) in
          let one = and-first (list_all (λ a. is_by_place (delivered_in a x)) accounts)
          (list_all (λ a. list_all (λ b. have_same_batches (delivered_in a x) (delivered_in b x)) accounts) accounts) tested in
          let two = and-second (list_all (λ a. is_by_place (delivered_in a x)) accounts)
          (list_all (λ a. list_all (λ b. have_same_batches (delivered_in a x) (delivered_in b x)) accounts) accounts) tested in (
            λ a m. stands-there (delivered_in a x) (list_all-mem (λ (a : Account). is_by_place (delivered_in a x)) accounts a one m),
            λ a b m m'. batches-there (delivered_in a x) (delivered_in b x)
                (list_all-mem (λ (b : Account). have_same_batches (delivered_in a x) (delivered_in b x)) accounts b
                (list_all-mem (λ (a : Account). list_all
                (λ b. have_same_batches (delivered_in a x) (delivered_in b x)) accounts) accounts a two m) m'),
          )
      go false ge = (
        λ a m. nothing-stands (delivered_in a x) (none-beyond x (ltb-false x (length g.views) ge) a m),
        λ a b m m'. nothing-shared (delivered_in a x) (delivered_in b x) (none-beyond x (ltb-false x (length g.views) ge) a m),
      )

  are-placed : list_all (are_placed_in accounts) (range_with_len 0 (length g.views)) ≡ true → ArePlaced accounts
  unfolding PlacedIn
  are-placed e = record {
    by_place = mem-All (λ a. (x : ℕ) → IsByPlace (delivered_in a x)) accounts (λ a m x. (placed-there e x).0 a m);
    same = mem-All (λ a. All (λ b. (x : ℕ) → HaveSameBatches (delivered_in a x) (delivered_in b x)) accounts) accounts
        (λ a m. mem-All (λ b. (x : ℕ) → HaveSameBatches (delivered_in a x) (delivered_in b x)) accounts
        (λ b m' x. (placed-there e x).1 a b m m'));
  }

  placed-tested : ArePlaced accounts → list_all (are_placed_in accounts) (range_with_len 0 (length g.views)) ≡ true
  placed-tested so = each-list_all (are_placed_in accounts) (range_with_len 0 (length g.views)) (λ x in_range. both-true _ _
      (each-list_all (λ a. is_by_place (delivered_in a x)) accounts
      (λ a m. there-stands (delivered_in a x)
      (All-mem (λ (a : Account). (x : ℕ) → IsByPlace (delivered_in a x)) accounts a so.by_place m x)))
      (each-list_all (λ a. list_all (λ b. have_same_batches (delivered_in a x) (delivered_in b x)) accounts) accounts
      (λ a m. each-list_all (λ b. have_same_batches (delivered_in a x) (delivered_in b x)) accounts (λ b m'.
      there-batches (delivered_in a x) (delivered_in b x)
      (All-mem (λ (b : Account). (x : ℕ) → HaveSameBatches (delivered_in a x) (delivered_in b x)) accounts b
      (All-mem (λ (a : Account). All
      (λ b. (x : ℕ) → HaveSameBatches (delivered_in a x) (delivered_in b x)) accounts) accounts a so.same m) m' x)))))

module _ (accounts : List Account) (keyed : List ℕ) (full : All HasListOfEachView accounts) where
  abbrev group : Group
  group = group_of accounts

  tested-sound : sound accounts keyed ≡ true → Sound accounts keyed
  tested-sound e =
      let three = and-first _ (list_all (are_placed_in accounts) (range_with_len 0 (length group.views))) e in
      let placed = and-second _ (list_all (are_placed_in accounts) (range_with_len 0 (length group.views))) e in
      let two = and-first (list_all (has_cause accounts keyed) (neighbours group.views)
      && list_all (is_sound_in group) (range_with_len 0 (length group.views))) (list_all (is_accepted group) accounts) three in
      let accepted = and-second (list_all (has_cause accounts keyed) (neighbours group.views)
      && list_all (is_sound_in group) (range_with_len 0 (length group.views))) (list_all (is_accepted group) accounts) three in
      let caused = and-first (list_all (has_cause accounts keyed) (neighbours group.views))
      (list_all (is_sound_in group) (range_with_len 0 (length group.views))) two in
      let ordered = and-second (list_all (has_cause accounts keyed) (neighbours group.views))
      (list_all (is_sound_in group) (range_with_len 0 (length group.views))) two in
      record {
        causes = λ x v w at next. cause-there accounts keyed v w
            (list_all-mem (has_cause accounts keyed) (neighbours group.views) (v, w) caused (at-neighbours group.views x v w at next));
        once = λ x. numbered-once (group.sequence x) (order-numbered (group.sequence x) (in-order accounts full ordered x));
        in_order = λ x sender. in-order accounts full ordered x sender;
        accepted = mem-All (λ a. IsPrefixOf (map (λ d. d.payload) (of_sender a.me (history group))) a.accepted) accounts (λ a m.
            prefix-is same_payload payloads-decide (map (λ (d : Letter). d.payload) (of_sender a.me (history group))) a.accepted
            (list_all-mem (is_accepted group) accounts a accepted m));
        placed = are-placed accounts full placed;
      }

  sound-tested : Sound accounts keyed → sound accounts keyed ≡ true
  sound-tested ok = both-true _ _
      (both-true _ _
      (both-true _ _
      (each-list_all (has_cause accounts keyed) (neighbours group.views)
      (λ e m. let at = neighbours-at group.views e.0 e.1 m in there-cause accounts keyed e.0 e.1 (ok.causes at.0 e.0 e.1 at.1 at.2)))
      (each-list_all (is_sound_in group) (range_with_len 0 (length group.views)) (λ x m. there-order (group.sequence x) (ok.in_order x))))
      (each-list_all (is_accepted group) accounts
      (λ a m. is-prefix same_payload payloads-decide (map (λ (d : Letter). d.payload) (of_sender a.me (history group))) a.accepted
      (All-mem (λ (a : Account). IsPrefixOf
      (map (λ (d : Letter). d.payload) (of_sender a.me (history group))) a.accepted) accounts a ok.accepted m))))
      (placed-tested accounts full ok.placed)

pub sound_is_tested : SoundIsTested
sound_is_tested accounts keyed full = (tested-sound accounts keyed full, sound-tested accounts keyed full)
