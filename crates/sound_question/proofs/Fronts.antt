-- Lists that stand by place have the same batches exactly where each is a front of the longest.
use Rattle.std.proofs.Common.{◌≡◌, ◌≢◌, ◌⊎◌, inl, inr, ℕ, ◌+◌, ◌<◌, ◌≤◌, List, [], ◌∷◌, map, length, Bool, true, false, refl, sym, ap, ◌∙◌, subst, arith}
use Rattle.std.specs.Prelude.{◌==◌, ◌&&◌, max, nat_le}
use Rattle.std.specs.List.{list_all}
use Rattle.std.proofs.lemmas.Bool.{cases_eq, eqb-true, eq-eqb, leb-true, le-leb}
use Rattle.std.proofs.lemmas.List.Folds.{list_all-map}
use Rattle.message_defs.specs.Statements.{Message}
use Rattle.group_defs.specs.Process.{Delivered, places_in}
use Rattle.group_defs.specs.Accounts as reported
use Rattle.group_defs.specs.Accounts.{at_place, batch_at, longest, delivered_in, have_same_batches, is_by_place, are_placed_in, HaveSameBatches}
use Rattle.pool_laws.proofs.Members.{Mem, each-list_all, list_all-mem, map-mem, mem-map}
use Rattle.pool_laws.proofs.Places.{longest-mem, longest-most}
use Rattle.pool_laws.proofs.Tests.{and-first, and-second, both-true}
use Rattle.group_questions.proofs.Fronts.{same-truth}
use Rattle.safety_laws.proofs.SoundTested.{batches-there, there-batches}
use Rattle.accounts.specs.declared.account.Account.{Account}
use Rattle.accounts.specs.Views.{account}
use Rattle.sound_question.specs.Parts.{steps, same_slot, front}
use Rattle.sound_question.proofs.Steps.{Step, next, more, stop, step, at-here, at-other, places-more, steps-stands}

-- ---- what the walk says of places before

pub nothing-before : (p l : ℕ) (ds : List Delivered) → steps p l ds ≡ true → (k : ℕ) → k + 1 < p → at_place k ds ≡ []
nothing-before p l [] e k lt = refl
nothing-before p l (d ∷ ds) e k lt = go (step p l d ds) (λ e. nothing-before (p + 1) 1 ds e k (omega (arith, lt)))
    (λ e. nothing-before p (l + 1) ds e k lt)
  where
    go : Step p l d ds → (steps (p + 1) 1 ds ≡ true → at_place k ds ≡ []) → (steps p (l + 1) ds ≡ true → at_place k ds ≡ [])
        → at_place k (d ∷ ds) ≡ []
    go (next is to) next-rest more-rest = at-other k d ds (λ here. omega (arith, here, is, lt)) ∙ next-rest (sym to ∙ e)
    go (more is few to) next-rest more-rest = at-other k d ds (λ here. omega (arith, here, is, lt)) ∙ more-rest (sym to ∙ e)
    go (stop other over to) next-rest more-rest = absurd cc

nothing-below : (p l : ℕ) (d : Delivered) (ds : List Delivered) → steps p l (d ∷ ds) ≡ true → d.place ≡ p → (k : ℕ) → k < p
    → at_place k (d ∷ ds) ≡ []
nothing-below p l d ds e at k lt = go (step p l d ds)
  where
    go : Step p l d ds → at_place k (d ∷ ds) ≡ []
    go (next is to) = at-other k d ds (λ here. omega (arith, here, is, lt)) ∙ nothing-before (p + 1) 1 ds (sym to ∙ e) k (omega (arith, lt))
    go (more is few to) = absurd (omega (arith, is, at))
    go (stop other over to) = absurd cc

-- ---- one slot

record SameSlot (d e : Delivered) : Type 0 where
  pub place : d.place ≡ e.place
  pub message : d.message ≡ e.message

slot-is : (d e : Delivered) → same_slot d e ≡ true → SameSlot d e
slot-is d e same =
    let first = and-first ((d.place == e.place) && (d.message.sender == e.message.sender)) (d.message.number == e.message.number) same in
    let sender = eqb-true d.message.sender e.message.sender
    (and-second (d.place == e.place) (d.message.sender == e.message.sender) first) in
    let number = eqb-true d.message.number e.message.number
    (and-second ((d.place == e.place) && (d.message.sender == e.message.sender)) (d.message.number == e.message.number) same) in
    record {
      place = eqb-true d.place e.place (and-first (d.place == e.place) (d.message.sender == e.message.sender) first);
      message = λ i. record { sender = sender i; number = number i };
    }

is-slot : (d e : Delivered) → d.place ≡ e.place → d.message ≡ e.message → same_slot d e ≡ true
is-slot d e place message =
    both-true ((d.place == e.place) && (d.message.sender == e.message.sender)) (d.message.number == e.message.number)
    (both-true (d.place == e.place) (d.message.sender == e.message.sender) (eq-eqb d.place e.place place)
    (eq-eqb d.message.sender e.message.sender (ap (λ (m : Message). m.sender) message)))
    (eq-eqb d.message.number e.message.number (ap (λ (m : Message). m.number) message))

batch-here : (k : ℕ) (d : Delivered) (ds : List Delivered) → d.place ≡ k → batch_at k (d ∷ ds) ≡ d.message ∷ batch_at k ds
batch-here k d ds is = ap (map (λ (d : Delivered). d.message)) (at-here k d ds is)

batch-other : (k : ℕ) (d : Delivered) (ds : List Delivered) → d.place ≢ k → batch_at k (d ∷ ds) ≡ batch_at k ds
batch-other k d ds differs = ap (map (λ (d : Delivered). d.message)) (at-other k d ds differs)

-- ---- a front has the same batches at its places

batch-more : (k : ℕ) (d e : Delivered) (ds es : List Delivered) → SameSlot d e → batch_at k ds ≡ batch_at k es
    → batch_at k (d ∷ ds) ≡ batch_at k (e ∷ es)
batch-more k d e ds es slot same = elim (cases_eq d.place k) [
  | inl here ↦ batch-here k d ds here ∙ (λ i. slot.message i ∷ same i) ∙ sym (batch-here k e es (sym slot.place ∙ here))
  | inr other ↦ batch-other k d ds other ∙ same ∙ sym (batch-other k e es (λ here. other (slot.place ∙ here)))
]

front-there : (p l : ℕ) (ds es : List Delivered) → steps p l es ≡ true → front p ds es ≡ true → (k : ℕ) → k < max p (places_in ds)
    → batch_at k ds ≡ batch_at k es
front-there p l [] [] e f k lt = refl
front-there p l [] (x ∷ es) e f k lt = go (step p l x es)
  where
    go : Step p l x es → batch_at k [] ≡ batch_at k (x ∷ es)
    go (next is to) = sym (ap (map (λ (d : Delivered). d.message)) (nothing-below p l x es e is k (omega (arith, lt))))
    go (more is few to) = absurd (let le = leb-true p x.place f in omega (arith, le, is))
    go (stop other over to) = absurd cc
front-there p l (d ∷ ds) [] e f k lt = absurd cc
front-there p l (d ∷ ds) (x ∷ es) e f k lt = go (step p l x es) (λ p l e f lt. front-there p l ds es e f k lt)
  where
    slot : SameSlot d x
    slot = slot-is d x (and-first (same_slot d x) (front (d.place + 1) ds es) f)

    rest : front (d.place + 1) ds es ≡ true
    rest = and-second (same_slot d x) (front (d.place + 1) ds es) f

    go : Step p l x es → ((p l : ℕ) → steps p l es ≡ true → front p ds es ≡ true → k < max p (places_in ds) → batch_at k ds ≡ batch_at k es)
        → batch_at k (d ∷ ds) ≡ batch_at k (x ∷ es)
    go (next is to) on =
        let place = slot.place in
        let count = places-more d ds in
        let same : d.place + 1 ≡ p + 1 = omega (arith, place, is) in
        batch-more k d x ds es slot (on (p + 1) 1 (sym to ∙ e) (ap (λ p. front p ds es) (sym same) ∙ rest)
        (omega (arith, lt, count, place, is)))
    go (more is few to) on =
        let place = slot.place in
        let count = places-more d ds in
        let same : d.place + 1 ≡ p = omega (arith, place, is) in
        batch-more k d x ds es slot (on p (l + 1) (sym to ∙ e) (ap (λ p. front p ds es) (sym same) ∙ rest)
        (omega (arith, lt, count, place, is)))
    go (stop other over to) on = absurd cc

-- ---- and the other way

-- the batches of the last place so far, and of the places that both have, are the same
abbrev Same : ℕ → List Delivered → List Delivered → Type 0
Same p ds es = (k : ℕ) → (k < p) ⊎ ((k < places_in ds) × (k < places_in es)) → batch_at k ds ≡ batch_at k es

no-batch : (ms : List Message) (m : Message) → m ∷ ms ≡ [] → ⊥
no-batch ms m e = absurd cc

first-is : (m n : Message) (ms ns : List Message) → m ∷ ms ≡ n ∷ ns → m ≡ n
first-is m n ms ns e = cc

others-are : (m n : Message) (ms ns : List Message) → m ∷ ms ≡ n ∷ ns → ms ≡ ns
others-are m n ms ns e = cc

module _ (d x : Delivered) (ds es : List Delivered) (place : d.place ≡ x.place) where
  heads : batch_at d.place (d ∷ ds) ≡ batch_at d.place (x ∷ es) → d.message ∷ batch_at d.place ds ≡ x.message ∷ batch_at d.place es
  heads e = sym (batch-here d.place d ds refl) ∙ e ∙ batch-here d.place x es (sym place)

  rest-same : (k : ℕ) → batch_at k (d ∷ ds) ≡ batch_at k (x ∷ es) → batch_at k ds ≡ batch_at k es
  rest-same k e = elim (cases_eq d.place k) [
    | inl here ↦ others-are d.message x.message (batch_at k ds) (batch_at k es)
        (sym (batch-here k d ds here) ∙ e ∙ batch-here k x es (sym place ∙ here))
    | inr other ↦ sym (batch-other k d ds other) ∙ e ∙ batch-other k x es (λ here. other (place ∙ here))
  ]

there-front : (p l : ℕ) (ds es : List Delivered) → steps p l ds ≡ true → steps p l es ≡ true → length ds ≤ length es → Same p ds es
    → front p ds es ≡ true
there-front p l [] [] d-walks e-walks le same = refl
there-front p l [] (x ∷ es) d-walks e-walks le same = go (step p l x es)
  where
    go : Step p l x es → nat_le p x.place ≡ true
    go (next is to) = le-leb p x.place (omega (arith, is))
    go (more is few to) = absurd (no-batch (batch_at x.place es) x.message
        (sym (batch-here x.place x es refl) ∙ sym (same x.place (inl (omega (arith, is))))))
    go (stop other over to) = absurd cc
there-front p l (d ∷ ds) [] d-walks e-walks le same = absurd (omega (arith, le))
there-front p l (d ∷ ds) (x ∷ es) d-walks e-walks le same = go (step p l d ds) (step p l x es)
    (λ q m one two same. there-front q m ds es one two (omega (arith, le)) same)
  where
    within : d.place ≡ x.place → (d.place < p) ⊎ ((d.place < places_in (d ∷ ds)) × (d.place < places_in (x ∷ es)))
    within place = let one = places-more d ds in let two = places-more x es in inr (omega (arith, one), omega (arith, two, place))

    among : (q : ℕ) → d.place ≡ x.place → d.place + 1 ≡ q → (k : ℕ) → (k < q) ⊎ ((k < places_in ds) × (k < places_in es))
        → (k < p) ⊎ ((k < places_in (d ∷ ds)) × (k < places_in (x ∷ es)))
    among q place is k (inl lt) = let one = places-more d ds in let two = places-more x es in inr
        (omega (arith, one, is, lt), omega (arith, two, is, lt, place))
    among q place is k (inr both) = let one = places-more d ds in let two = places-more x es in let a = both.0 in let b = both.1 in inr
        (omega (arith, one, a), omega (arith, two, b))

    on : (q m : ℕ) → d.place ≡ x.place → d.place + 1 ≡ q → steps q m ds ≡ true → steps q m es ≡ true
        → ((q m : ℕ) → steps q m ds ≡ true → steps q m es ≡ true → Same q ds es → front q ds es ≡ true)
        → front p (d ∷ ds) (x ∷ es) ≡ true
    on q m place is one two others =
        let first = heads d x ds es place (same d.place (within place)) in
        both-true (same_slot d x) (front (d.place + 1) ds es)
        (is-slot d x place (first-is d.message x.message (batch_at d.place ds) (batch_at d.place es) first))
        (ap (λ p. front p ds es) is
        ∙ others q m one two (λ k w. rest-same d x ds es place k (same k (among q place is k w))))

    go : Step p l d ds → Step p l x es → ((q m : ℕ) → steps q m ds ≡ true → steps q m es ≡ true → Same q ds es → front q ds es ≡ true)
        → front p (d ∷ ds) (x ∷ es) ≡ true
    go (next is to) (next is' to') others = on (p + 1) 1 (is ∙ sym is') (ap (λ k. k + 1) is) (sym to ∙ d-walks) (sym to' ∙ e-walks) others
    go (more is few to) (more is' few' to') others = on p (l + 1) (omega (arith, is, is')) is (sym to ∙ d-walks) (sym to' ∙ e-walks) others
    go (next is to) (more is' few' to') others =
        absurd (no-batch (batch_at x.place es) x.message
        (sym (batch-here x.place x es refl) ∙ sym (same x.place (inl (omega (arith, is')))) ∙ ap (map (λ (d : Delivered). d.message))
        (nothing-below p l d ds d-walks is x.place (omega (arith, is')))))
    go (more is few to) (next is' to') others =
        absurd (no-batch (batch_at d.place ds) d.message
        (sym (batch-here d.place d ds refl) ∙ same d.place (inl (omega (arith, is))) ∙ ap (map (λ (d : Delivered). d.message))
        (nothing-below p l x es e-walks is' d.place (omega (arith, is)))))
    go (stop other over to) there others = absurd cc
    go (next is to) (stop other over to') others = absurd cc
    go (more is few to) (stop other over to') others = absurd cc

-- ---- all of them

module _ {A : Type 0} (of : A → List Delivered) (xs : List A) where
  abbrev most : List Delivered
  most = longest (map of xs)

  abbrev stands : A → Bool
  stands a = steps 0 0 (of a)

  abbrev is_front : A → Bool
  is_front a = front 0 (of a) most

  abbrev is_alike : A → A → Bool
  is_alike a b = have_same_batches (of a) (of b)

  module _ (all : list_all stands xs ≡ true) where
    -- the longest is one of them
    most-of : (a : A) → Mem a xs → (b : A) × Mem b xs × (of b ≡ most)
    most-of a m = map-mem of xs most (longest-mem (map of xs) (of a) (mem-map of xs a m))

    most-stands : (a : A) → Mem a xs → steps 0 0 most ≡ true
    most-stands a m = let b = most-of a m in ap (steps 0 0) (sym b.2) ∙ list_all-mem stands xs b.0 all b.1

    same-as-most : (a : A) → Mem a xs → is_front a ≡ true → (k : ℕ) → k < places_in (of a) → batch_at k (of a) ≡ batch_at k most
    same-as-most a m f k lt = front-there 0 0 (of a) most (most-stands a m) f k (omega (arith, lt))

    there-is : (a : A) → Mem a xs → ((b : A) → Mem b xs → HaveSameBatches (of a) (of b)) → is_front a ≡ true
    there-is a m same =
        let b = most-of a m in
        there-front 0 0 (of a) most (list_all-mem stands xs a all m) (most-stands a m) (longest-most (map of xs) (of a) (mem-map of xs a m))
        (λ k w. at b.0 b.1 b.2 k w)
      where
        at : (b : A) → Mem b xs → of b ≡ most → (k : ℕ) → (k < 0) ⊎ ((k < places_in (of a)) × (k < places_in most))
            → batch_at k (of a) ≡ batch_at k most
        at b there is k (inl lt) = absurd (omega (arith, lt))
        at b there is k (inr both) = subst (HaveSameBatches (of a)) is (same b there) k both.0 both.1

    fronts-alike : list_all is_front xs ≡ list_all (λ a. list_all (is_alike a) xs) xs
    fronts-alike = same-truth (list_all is_front xs) (list_all (λ a. list_all (is_alike a) xs) xs)
        (λ e. each-list_all (λ a. list_all (is_alike a) xs) xs
        (λ a m. each-list_all (is_alike a) xs (λ b m'. there-batches (of a) (of b) (λ k lt lt'.
        same-as-most a m (list_all-mem is_front xs a e m) k lt ∙ sym (same-as-most b m' (list_all-mem is_front xs b e m') k lt')))))
        (λ e. each-list_all is_front xs
        (λ a m. there-is a m (λ b m'. batches-there (of a) (of b)
        (list_all-mem (is_alike a) xs b (list_all-mem (λ a. list_all (is_alike a) xs) xs a e m) m'))))

both-same : (a b c d : Bool) → a ≡ c → (a ≡ true → b ≡ d) → (a && b) ≡ (c && d)
both-same true true c d e f = λ i. e i && f refl i
both-same true false c d e f = λ i. e i && f refl i
both-same false b c d e f = ap (λ (x : Bool). x && d) e

all-same : {A : Type 0} (f g : A → Bool) (xs : List A) → ((x : A) → f x ≡ g x) → list_all f xs ≡ list_all g xs
all-same f g [] same = refl
all-same f g (x ∷ xs) same = λ i. same x i && all-same f g xs same i

-- the places of a view are delivered whole and alike exactly where each list stands by place and is a front of the longest
module _ (accounts : List Account) (x : ℕ) where
  abbrev of_account : Account → List Delivered
  of_account a = delivered_in (account a) x

  abbrev all_by_place : Bool
  all_by_place = list_all (λ a. steps 0 0 (of_account a)) accounts

  abbrev are_fronts : List Delivered → Bool
  are_fronts all = list_all (λ a. front 0 (of_account a) all) accounts

  abbrev in_view : reported.Account → List Delivered
  in_view a = delivered_in a x

  placed-by : (all_by_place && are_fronts (longest (map of_account accounts))) ≡ are_placed_in (map account accounts) x
  placed-by =
      both-same all_by_place (are_fronts (longest (map of_account accounts)))
      (list_all (λ a. is_by_place (in_view a)) (map account accounts))
      (list_all (λ a. list_all (λ b. have_same_batches (in_view a) (in_view b)) (map account accounts)) (map account accounts))
      (all-same (λ a. steps 0 0 (of_account a))
      (λ a. is_by_place (of_account a)) accounts (λ a. steps-stands (of_account a)) ∙ sym
      (list_all-map (λ a. is_by_place (in_view a)) account accounts))
      (λ e.
      fronts-alike of_account accounts e
      ∙ all-same (λ a. list_all (λ b. have_same_batches (of_account a) (of_account b)) accounts)
      (λ a. list_all (λ b. have_same_batches (of_account a) (in_view b)) (map account accounts)) accounts
      (λ a. sym (list_all-map (λ b. have_same_batches (of_account a) (in_view b)) account accounts))
      ∙ sym (list_all-map (λ a. list_all (λ b. have_same_batches (in_view a) (in_view b)) (map account accounts)) account accounts))

  pub placed-where : all_by_place ≡ true → (all : List Delivered) → all ≡ longest (map of_account accounts)
      → are_fronts all ≡ are_placed_in (map account accounts) x
  placed-where e all is = ap are_fronts is ∙ ap (λ b. b && are_fronts (longest (map of_account accounts))) (sym e) ∙ placed-by

  pub not-placed : all_by_place ≡ false → false ≡ are_placed_in (map account accounts) x
  not-placed e = ap (λ b. b && are_fronts (longest (map of_account accounts))) (sym e) ∙ placed-by
