-- The walk over places says whether a list stands by place.
use Rattle.std.proofs.Common.{◌≡◌, ◌≢◌, inl, inr, ℕ, zero, suc, ◌+◌, ◌<◌, ◌≤◌, List, [], ◌∷◌, ◌++◌, length, Bool, true, false, refl, sym, ap, ◌∙◌, subst, arith}
use Rattle.std.specs.Prelude.{◌==◌, max, nat_lt, if◌then◌else◌, flat_map, fold}
use Rattle.std.specs.List.{range_with_len}
use Rattle.std.proofs.lemmas.Bool.{cases_eq, cases_lt, eqb-true, eqb-false, eq-eqb, ne_eqb, ltb-true, lt-ltb}
use Rattle.group_defs.specs.Process.{Delivered, places_in}
use Rattle.group_defs.specs.Accounts.{at_place, is_by_place}
use Rattle.pool_laws.proofs.Members.{Mem, filter-mem}
use Rattle.group_questions.proofs.Fronts.{same-truth}
use Rattle.safety_laws.proofs.SoundTested.{stands-there, there-stands}
use Rattle.sound_question.specs.Parts.{steps}

-- ---- the number of places

most-from : (m : ℕ) (ds : List Delivered) → fold (λ most (d : Delivered). max most (d.place + 1)) m ds ≡ max m (places_in ds)
most-from m [] = omega arith
most-from m (d ∷ ds) =
    let here = most-from (max m (d.place + 1)) ds in
    let there = most-from (max 0 (d.place + 1)) ds in
    here ∙ (let e : max (max m (d.place + 1)) (places_in ds) ≡ max m (max (max 0 (d.place + 1)) (places_in ds)) = omega arith in e) ∙ ap
    (max m) (sym there)

pub places-more : (d : Delivered) (ds : List Delivered) → places_in (d ∷ ds) ≡ max (d.place + 1) (places_in ds)
places-more d ds = most-from (max 0 (d.place + 1)) ds ∙
    (let e : max (max 0 (d.place + 1)) (places_in ds) ≡ max (d.place + 1) (places_in ds) = omega arith in e)

-- ---- what is at a place

pub at-here : (k : ℕ) (d : Delivered) (ds : List Delivered) → d.place ≡ k → at_place k (d ∷ ds) ≡ d ∷ at_place k ds
at-here k d ds is = go (d.place == k) (eq-eqb d.place k is)
  where
    go : (b : Bool) → b ≡ true → (if b then d ∷ at_place k ds else at_place k ds) ≡ d ∷ at_place k ds
    go true e = refl
    go false e = absurd cc

pub at-other : (k : ℕ) (d : Delivered) (ds : List Delivered) → d.place ≢ k → at_place k (d ∷ ds) ≡ at_place k ds
at-other k d ds differs = go (d.place == k) (ne_eqb d.place k differs)
  where
    go : (b : Bool) → b ≡ false → (if b then d ∷ at_place k ds else at_place k ds) ≡ at_place k ds
    go true e = absurd cc
    go false e = refl

none-is : (k : ℕ) (d : Delivered) (ds : List Delivered) → at_place k (d ∷ ds) ≡ [] → d.place ≢ k
none-is k d ds none is = go (at_place k ds) (sym (at-here k d ds is) ∙ none)
  where
    go : (es : List Delivered) → d ∷ es ≡ [] → ⊥
    go es e = absurd cc

abbrev one_by_one : ℕ → ℕ → List Delivered → List Delivered
one_by_one a n ds = flat_map (λ k. at_place k ds) (range_with_len a n)

-- a message goes in front of a list of which nothing stands at places before its own
later-same : (a n : ℕ) (d : Delivered) (ds : List Delivered) → d.place < a → one_by_one a n (d ∷ ds) ≡ one_by_one a n ds
later-same a zero d ds lt = refl
later-same a (suc n) d ds lt = λ i. at-other a d ds (λ e. omega (arith, lt, e)) i ++ later-same (a + 1) n d ds (omega (arith, lt)) i

goes-in-front : (a n : ℕ) (d : Delivered) (ds : List Delivered) → a ≤ d.place → d.place < a + n
    → ((k : ℕ) → a ≤ k → k < d.place → at_place k ds ≡ []) → one_by_one a n (d ∷ ds) ≡ d ∷ one_by_one a n ds
goes-in-front a zero d ds le lt none = absurd (omega (arith, le, lt))
goes-in-front a (suc n) d ds le lt none = elim (cases_eq d.place a) [
  | inl is ↦ (λ i. at-here a d ds is i ++ later-same (a + 1) n d ds (omega (arith, is)) i)
  | inr differs ↦
      (λ i. at-other a d ds differs i
      ++ goes-in-front (a + 1) n d ds (omega (arith, le, differs)) (omega (arith, lt)) (λ k le lt. none k (omega (arith, le)) lt) i)
      ∙ (λ i. none a (omega arith) (omega (arith, le, differs)) i ++ d ∷ one_by_one (a + 1) n ds)
      ∙ ap (λ es. d ∷ es) (λ i. sym (none a (omega arith) (omega (arith, le, differs))) i ++ one_by_one (a + 1) n ds)
]

-- the first message of a list that is told place by place is at the first place that has any
record First (a n : ℕ) (d : Delivered) (ds : List Delivered) : Type 0 where
  pub from : a ≤ d.place
  pub within : d.place < a + n
  pub none : (k : ℕ) → a ≤ k → k < d.place → at_place k ds ≡ []

first : (a n : ℕ) (d : Delivered) (rest ds : List Delivered) → one_by_one a n ds ≡ d ∷ rest → First a n d ds
first a zero d rest ds e = absurd cc
first a (suc n) d rest ds e = go (at_place a ds) refl (λ x m. (filter-mem (λ (d : Delivered). d.place == a) ds x m).1) e
    (λ e. first (a + 1) n d rest ds e)
  where
    head-is : (x : Delivered) (xs ys : List Delivered) → x ∷ xs ≡ d ∷ ys → x ≡ d
    head-is x xs ys e = cc

    go : (here : List Delivered) → at_place a ds ≡ here → ((x : Delivered) → Mem x here → (x.place == a) ≡ true)
        → here ++ one_by_one (a + 1) n ds ≡ d ∷ rest
        → (one_by_one (a + 1) n ds ≡ d ∷ rest → First (a + 1) n d ds) → First a (suc n) d ds
    go [] none at e behind =
        let later = behind e in
        let from = later.from in
        let within = later.within in
        record {
          from = omega (arith, from);
          within = omega (arith, within);
          none = λ k le lt. elim (cases_eq k a) [
            | inl is ↦ ap (λ k. at_place k ds) is ∙ none
            | inr differs ↦ later.none k
                (omega (arith, le, differs)) lt
          ];
        }
    go (x ∷ xs) some at e behind =
        let is : d.place ≡ a = ap (λ (d : Delivered). d.place)
        (sym (head-is x (xs ++ one_by_one (a + 1) n ds) rest e)) ∙ eqb-true x.place a (at x (inl refl)) in
        record { from = omega (arith, is); within = omega (arith, is); none = λ k le lt. absurd (omega (arith, le, lt, is)) }

-- ---- the walk

-- What is left behind so many places, the last of which has so many messages, is told place by place. There are n places in all
record Goes (places messages : ℕ) (ds : List Delivered) (n : ℕ) : Type 0 where
  pub together : one_by_one 0 n ds ≡ ds
  pub enough : places ≤ n
  pub whole : (k : ℕ) → places ≤ k → k < n → (1 ≤ length (at_place k ds)) × (length (at_place k ds) ≤ 16)
  pub last : (k : ℕ) → k + 1 ≡ places → messages + length (at_place k ds) ≤ 16
  pub before : (k : ℕ) → k + 1 < places → at_place k ds ≡ []

-- one that is the first of the next place
module _ (p l n : ℕ) (d : Delivered) (ds : List Delivered) (is : d.place ≡ p) where
  next-goes : l ≤ 16 → Goes (p + 1) 1 ds n → Goes p l (d ∷ ds) n
  next-goes few g =
      let enough = g.enough in
      record {
        together = goes-in-front 0 n d ds (omega arith) (omega (arith, is, enough))
            (λ k le lt. g.before k (omega (arith, lt, is))) ∙ ap (λ es. d ∷ es) g.together;
        enough = omega (arith, enough);
        whole = λ k le lt. elim (cases_eq d.place k) [
          | inl here ↦
              let long : length (at_place k (d ∷ ds)) ≡ suc (length (at_place k ds)) = ap length (at-here k d ds here) in
              let most = g.last k (omega (arith, here, is)) in
              (omega (arith, long), omega (arith, long, most))
          | inr other ↦
              let long : length (at_place k (d ∷ ds)) ≡ length (at_place k ds) = ap length (at-other k d ds other) in
              let both = g.whole k (omega (arith, le, other, is)) lt in
              let some = both.0 in
              let most = both.1 in
              (omega (arith, long, some), omega (arith, long, most))
        ];
        last = λ k e.
            let none : length (at_place k (d ∷ ds))
            ≡ 0 = ap length (at-other k d ds (λ here. omega (arith, here, e, is)) ∙ g.before k (omega (arith, e))) in
            omega (arith, none, few);
        before = λ k lt. at-other k d ds (λ here. omega (arith, here, lt, is)) ∙ g.before k (omega (arith, lt));
      }

  goes-next : Goes p l (d ∷ ds) n → First 0 n d (d ∷ ds) → one_by_one 0 n ds ≡ ds → Goes (p + 1) 1 ds n
  goes-next g at together =
      let within = at.within in
      record {
        together = together;
        enough = omega (arith, within, is);
        whole = λ k le lt.
            let long : length (at_place k (d ∷ ds))
            ≡ length (at_place k ds) = ap length (at-other k d ds (λ here. omega (arith, here, le, is))) in
            let both = g.whole k (omega (arith, le)) lt in
            let some = both.0 in
            let most = both.1 in
            (omega (arith, long, some), omega (arith, long, most));
        last = λ k e.
            let long : length (at_place k (d ∷ ds)) ≡ suc (length (at_place k ds)) = ap length (at-here k d ds (omega (arith, is, e))) in
            let both = g.whole k (omega (arith, e)) (omega (arith, e, within, is)) in
            let most = both.1 in
            omega (arith, long, most);
        before = λ k lt. sym (at-other k d ds (λ here. omega (arith, here, lt, is))) ∙ at.none k (omega arith) (omega (arith, lt, is));
      }

-- one more of the last place
module _ (p l n : ℕ) (d : Delivered) (ds : List Delivered) (is : d.place + 1 ≡ p) where
  more-goes : Goes p (l + 1) ds n → Goes p l (d ∷ ds) n
  more-goes g =
      let enough = g.enough in
      record {
        together = goes-in-front 0 n d ds (omega arith) (omega (arith, is, enough))
            (λ k le lt. g.before k (omega (arith, lt, is))) ∙ ap (λ es. d ∷ es) g.together;
        enough = enough;
        whole = λ k le lt.
            let long : length (at_place k (d ∷ ds))
            ≡ length (at_place k ds) = ap length (at-other k d ds (λ here. omega (arith, here, le, is))) in
            let both = g.whole k le lt in
            let some = both.0 in
            let most = both.1 in
            (omega (arith, long, some), omega (arith, long, most));
        last = λ k e.
            let long : length (at_place k (d ∷ ds)) ≡ suc (length (at_place k ds)) = ap length (at-here k d ds (omega (arith, is, e))) in
            let most = g.last k e in
            omega (arith, long, most);
        before = λ k lt. at-other k d ds (λ here. omega (arith, here, lt, is)) ∙ g.before k lt;
      }

  goes-more : Goes p l (d ∷ ds) n → one_by_one 0 n ds ≡ ds → (l < 16) × Goes p (l + 1) ds n
  goes-more g together =
      let most = g.last d.place is in
      let long : length (at_place d.place (d ∷ ds)) ≡ suc (length (at_place d.place ds)) = ap length (at-here d.place d ds refl) in (
        omega (arith, most, long),
        record {
          together = together;
          enough = g.enough;
          whole = λ k le lt.
              let long : length (at_place k (d ∷ ds))
              ≡ length (at_place k ds) = ap length (at-other k d ds (λ here. omega (arith, here, le, is))) in
              let both = g.whole k le lt in
              let some = both.0 in
              let most = both.1 in
              (omega (arith, long, some), omega (arith, long, most));
          last = λ k e.
              let long : length (at_place k (d ∷ ds)) ≡ suc (length (at_place k ds)) = ap length (at-here k d ds (omega (arith, is, e))) in
              let most = g.last k e in
              omega (arith, long, most);
          before = λ k lt. sym (at-other k d ds (λ here. omega (arith, here, lt, is))) ∙ g.before k lt;
        },
      )

empty : (a n : ℕ) → one_by_one a n [] ≡ []
empty a zero = refl
empty a (suc n) = empty (a + 1) n

-- the walk at one message
pub data Step (p l : ℕ) (d : Delivered) (ds : List Delivered) : Type 0 where
  next : d.place ≡ p → steps p l (d ∷ ds) ≡ steps (p + 1) 1 ds → Step p l d ds
  more : d.place + 1 ≡ p → l < 16 → steps p l (d ∷ ds) ≡ steps p (l + 1) ds → Step p l d ds
  stop : d.place ≢ p → (d.place + 1 ≡ p → l < 16 → ⊥) → steps p l (d ∷ ds) ≡ false → Step p l d ds

pub step : (p l : ℕ) (d : Delivered) (ds : List Delivered) → Step p l d ds
step p l d ds = go (d.place == p) refl (d.place + 1 == p) refl (nat_lt l 16) refl
  where
    go : (a : Bool) → (d.place == p) ≡ a → (b : Bool) → (d.place + 1 == p) ≡ b → (c : Bool) → nat_lt l 16 ≡ c → Step p l d ds
    go true here b after c few = next (eqb-true d.place p here) (rw here refl)
    go false here true after true few = more (eqb-true (d.place + 1) p after) (ltb-true l 16 few) (rw (here, after, few) refl)
    go false here true after false few = stop (eqb-false d.place p here)
        (λ e lt. (let yes' : nat_lt l 16 ≡ true = lt-ltb l 16 lt in absurd cc)) (rw (here, after, few) refl)
    go false here false after c few = stop (eqb-false d.place p here)
        (λ e lt. (let yes' : (d.place + 1 == p) ≡ true = eq-eqb (d.place + 1) p e in absurd cc)) (rw (here, after) refl)

walked : (p l : ℕ) (ds : List Delivered) → l ≤ 16 → steps p l ds ≡ true → Goes p l ds (max p (places_in ds))
walked p l [] few e =
    let n : max p 0 ≡ p = omega arith in
    subst (Goes p l []) (sym n) (record {
      together = empty 0 p;
      enough = omega arith;
      whole = λ k le lt. absurd (omega (arith, le, lt));
      last = λ k e. omega (arith, few);
      before = λ k lt. refl;
    })
walked p l (d ∷ ds) few e = go (step p l d ds) (λ e. walked (p + 1) 1 ds (omega arith) e)
    (λ lt e. walked p (l + 1) ds (omega (arith, lt)) e)
  where
    go : Step p l d ds → (steps (p + 1) 1 ds ≡ true → Goes (p + 1) 1 ds (max (p + 1) (places_in ds)))
        → (l < 16 → steps p (l + 1) ds ≡ true → Goes p (l + 1) ds (max p (places_in ds)))
        → Goes p l (d ∷ ds) (max p (places_in (d ∷ ds)))
    go (next is to) next-rest more-rest =
        let count = places-more d ds in
        let n : max (p + 1) (places_in ds) ≡ max p (places_in (d ∷ ds)) = omega (arith, count, is) in
        next-goes p l (max p (places_in (d ∷ ds))) d ds is few (subst (Goes (p + 1) 1 ds) n (next-rest (sym to ∙ e)))
    go (more is lt to) next-rest more-rest =
        let count = places-more d ds in
        let n : max p (places_in ds) ≡ max p (places_in (d ∷ ds)) = omega (arith, count, is) in
        more-goes p l (max p (places_in (d ∷ ds))) d ds is (subst (Goes p (l + 1) ds) n (more-rest lt (sym to ∙ e)))
    go (stop other over to) next-rest more-rest = absurd cc

walks : (p l n : ℕ) (ds : List Delivered) → Goes p l ds n → steps p l ds ≡ true
walks p l n [] g = refl
walks p l n (d ∷ ds) g = go (step p l d ds) (λ g. walks (p + 1) 1 n ds g) (λ g. walks p (l + 1) n ds g)
  where
    at : First 0 n d (d ∷ ds)
    at = first 0 n d ds (d ∷ ds) g.together

    tail-is : (es fs : List Delivered) → d ∷ es ≡ d ∷ fs → es ≡ fs
    tail-is es fs e = cc

    together : one_by_one 0 n ds ≡ ds
    together = tail-is (one_by_one 0 n ds) ds
        (sym (goes-in-front 0 n d ds (omega arith) (let within = at.within in omega (arith, within))
        (λ k le lt. sym (at-other k d ds (λ here. omega (arith, here, lt))) ∙ at.none k le lt)) ∙ g.together)

    go : Step p l d ds → (Goes (p + 1) 1 ds n → steps (p + 1) 1 ds ≡ true) → (Goes p (l + 1) ds n → steps p (l + 1) ds ≡ true)
        → steps p l (d ∷ ds) ≡ true
    go (next is to) next-rest more-rest = to ∙ next-rest (goes-next p l n d ds is g at together)
    go (more is lt to) next-rest more-rest = to ∙ more-rest (goes-more p l n d ds is g together).1
    go (stop other over to) next-rest more-rest = absurd (elim (cases_lt d.place p) [
      | inl below ↦ elim (cases_eq (d.place + 1) p) [
        | inl is ↦ over is (goes-more p l n d ds is g together).0
        | inr less ↦ none-is d.place d ds (g.before d.place (omega (arith, below, less))) refl
      ]
      | inr above ↦
          let within = at.within in
          let some = (g.whole p (omega arith) (omega (arith, above, within, other))).0 in
          let none : length (at_place p (d ∷ ds)) ≡ 0 = ap length (at.none p (omega arith) (omega (arith, above, other))) in
          omega (arith, some, none)
    ])

pub steps-stands : (ds : List Delivered) → steps 0 0 ds ≡ is_by_place ds
steps-stands ds = same-truth (steps 0 0 ds) (is_by_place ds)
    (λ e.
    let n : max 0 (places_in ds) ≡ places_in ds = omega arith in
    let g = subst (Goes 0 0 ds) n (walked 0 0 ds (omega arith) e) in
    there-stands ds (record { together = g.together; batches = λ k lt. g.whole k (omega arith) lt }))
    (λ e.
    let so = stands-there ds e in
    walks 0 0 (places_in ds) ds (record {
      together = so.together;
      enough = omega arith;
      whole = λ k le lt. so.batches k lt;
      last = λ k e. absurd (omega (arith, e));
      before = λ k lt. absurd (omega (arith, lt));
    }))
