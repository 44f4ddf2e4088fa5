-- Each place is delivered whole, with 1 to 16 messages, and all deliver the same there.
use Rattle.std.proofs.Common.{◌≡◌, inl, inr, ℕ, zero, suc, ◌+◌, ◌<◌, ◌≤◌, List, [], ◌∷◌, ◌++◌, map, length, Some, Bool, true, false, refl, sym, ap, ◌∙◌, subst, arith, slice_get}
use Rattle.std.specs.Prelude.{if◌then◌else◌, ◌==◌, nat_lt, nat_le, flat_map}
use Rattle.std.specs.List.{range_with_len}
use Rattle.std.proofs.lemmas.Bool.{eqb-true, eq-eqb, leb-true, ltb-true}
use Rattle.std.proofs.lemmas.List.{append-nil, length-map}
use Rattle.std.proofs.lemmas.List.Elements.{filter-append}
use Rattle.group_defs.specs.Views.{View}
use Rattle.group_defs.specs.Below.{Message, Batch}
use Rattle.group_defs.specs.Process.{Delivered, views_of, places_in}
use Rattle.group_defs.specs.Accounts.{account_of, delivered_in, at_place, batch_at, IsByPlace, HaveSameBatches, ArePlaced}
use Rattle.group_defs.specs.Family.{Correct, Family, end_of, accounts}
use Rattle.group_defs.specs.Laws.{Premises, IsOneView}
use Rattle.std.specs.Prelude.{All}
use Rattle.safety_laws.proofs.AllAgree.{Part, nothing, part, same-batch, something}
use Rattle.safety_laws.proofs.Batches.{AreAt, named_at, of-one, spread, with_place}
use Rattle.safety_laws.proofs.History.{ViewSo}
use Rattle.safety_laws.proofs.InOrder.{batch-there}
use Rattle.pool_laws.proofs.Members.{Mem, append-mem, map-mem, mem-map}
use Rattle.safety_laws.proofs.OfGroup.{each-account}
use Rattle.pool_laws.proofs.Places.{get-some, slice_get-mem}
use Rattle.pool_laws.proofs.Tests.{and-first, and-second}
use Rattle.safety_laws.proofs.ViewsAgree.{of-history, one-view, views-agree}

-- ---- lists

-- where the image falls into two, so does the list
record Split {A B : Type 0} (g : A → B) (ds : List A) (xs ys : List B) : Type 0 where
  pub one : List A
  pub two : List A
  pub is : ds ≡ one ++ two
  pub first : map g one ≡ xs
  pub second : map g two ≡ ys

split : {A B : Type 0} (g : A → B) (ds : List A) (xs ys : List B) → map g ds ≡ xs ++ ys → Split g ds xs ys
split g ds [] ys e = record { one = []; two = ds; is = refl; first = refl; second = e }
split g [] (x ∷ xs) ys e = absurd cc
split {A} {B} g (d ∷ ds) (x ∷ xs) ys e =
    let rest = split g ds xs ys (tail-is (map g ds) (xs ++ ys) e) in
    let head : g d ≡ x = head-is (map g ds) (xs ++ ys) e in
    record { one = d ∷ rest.one; two = rest.two; is = ap (λ ds. d ∷ ds) rest.is; first = λ i. head i ∷ rest.first i; second = rest.second }
  where
    head-is : (zs ws : List B) → g d ∷ zs ≡ x ∷ ws → g d ≡ x
    head-is zs ws e = cc

    tail-is : (zs ws : List B) → g d ∷ zs ≡ x ∷ ws → zs ≡ ws
    tail-is zs ws e = cc

flat_map-range : {A : Type 0} (g h : ℕ → List A) (a n : ℕ) → ((k : ℕ) → a ≤ k → g k ≡ h k)
    → flat_map g (range_with_len a n) ≡ flat_map h (range_with_len a n)
flat_map-range g h a zero same = refl
flat_map-range g h a (suc n) same = λ i. same a (omega arith) i ++ flat_map-range g h (a + 1) n (λ k le. same k (omega (arith, le))) i

-- ---- what stands at a place

all-at : (k : ℕ) (es : List Delivered) → AreAt k es → at_place k es ≡ es
all-at k [] are = refl
all-at k (e ∷ es) are = go (e.place == k) (eq-eqb e.place k (are e (inl refl))) (all-at k es (λ d m. are d (inr m)))
  where
    go : (b : Bool) → b ≡ true → at_place k es ≡ es → (if b then e ∷ at_place k es else at_place k es) ≡ e ∷ es
    go true is rest = ap (λ es. e ∷ es) rest
    go false is rest = absurd cc

none-at : (k : ℕ) (es : List Delivered) → ((e : Delivered) → Mem e es → e.place ≡ k → ⊥) → at_place k es ≡ []
none-at k [] no' = refl
none-at k (e ∷ es) no' = go (e.place == k) refl (none-at k es (λ d m. no' d (inr m)))
  where
    go : (b : Bool) → (e.place == k) ≡ b → at_place k es ≡ [] → (if b then e ∷ at_place k es else at_place k es) ≡ []
    go true is rest = absurd (no' e (inl refl) (eqb-true e.place k is))
    go false is rest = rest

first-at : (a : ℕ) (b : Batch) (es : List Delivered) → map named_at es ≡ map (with_place a) b → AreAt a es
first-at a b es e d m =
    let there = map-mem (with_place a) b (named_at d) (subst (Mem (named_at d)) e (mem-map named_at es d m)) in
    sym (ap (λ (n : ℕ × Message). n.0) there.2)

spread-from : (a : ℕ) (bs : List Batch) (x : ℕ × Message) → Mem x (spread a bs) → a ≤ x.0
spread-from a [] x m = absurd m
spread-from a (b ∷ bs) x m = elim (append-mem (map (with_place a) b) (spread (a + 1) bs) x m) [
  | inl here ↦ (let there = map-mem (with_place a) b x here in let is = ap (λ (n : ℕ × Message). n.0) there.2 in omega (arith, is))
  | inr later ↦ (let rest = spread-from (a + 1) bs x later in omega (arith, rest))
]

later-from : (a : ℕ) (bs : List Batch) (fs : List Delivered) → map named_at fs ≡ spread a bs → (d : Delivered) → Mem d fs → a ≤ d.place
later-from a bs fs e d m = spread-from a bs (named_at d) (subst (Mem (named_at d)) e (mem-map named_at fs d m))

module _ (a : ℕ) (b : Batch) (bs : List Batch) (es fs : List Delivered) (first : map named_at es ≡ map (with_place a) b)
    (second : map named_at fs ≡ spread (a + 1) bs) where
  at-first : at_place a (es ++ fs) ≡ es
  at-first =
      filter-append (λ (d : Delivered). d.place == a) es fs
      ∙ (λ i. all-at a es (first-at a b es first) i
      ++ none-at a fs (λ d m is. (let le = later-from (a + 1) bs fs second d m in absurd (omega (arith, le, is)))) i)
      ∙ append-nil es

  at-later : (k : ℕ) → a + 1 ≤ k → at_place k (es ++ fs) ≡ at_place k fs
  at-later k le =
      filter-append (λ (d : Delivered). d.place == k) es fs
      ∙ ap (λ es. es ++ at_place k fs) (none-at k es (λ d m is. (let at = first-at a b es first d m in absurd (omega (arith, le, is, at)))))

together-from : (a : ℕ) (bs : List Batch) (ds : List Delivered) → map named_at ds ≡ spread a bs
    → flat_map (λ k. at_place k ds) (range_with_len a (length bs)) ≡ ds
together-from a [] [] e = refl
together-from a [] (d ∷ ds) e = absurd cc
together-from a (b ∷ bs) ds e =
    let parts = split named_at ds (map (with_place a) b) (spread (a + 1) bs) e in
    subst (λ ds. flat_map (λ k. at_place k ds) (range_with_len a (suc (length bs))) ≡ ds) (sym parts.is)
    (λ i. at-first a b bs parts.one parts.two parts.first parts.second i
    ++ (flat_map-range (λ k. at_place k (parts.one ++ parts.two)) (λ k. at_place k parts.two) (a + 1) (length bs)
    (at-later a b bs parts.one parts.two parts.first parts.second)
    ∙ together-from (a + 1) bs parts.two parts.second) i)

batch-from : (a : ℕ) (bs : List Batch) (ds : List Delivered) → map named_at ds ≡ spread a bs → (j : ℕ) (b : Batch) → slice_get bs j ≡ Some b
    → batch_at (a + j) ds ≡ b
batch-from a [] ds e j b at = absurd cc
batch-from a (b ∷ bs) ds e zero c at =
    let parts = split named_at ds (map (with_place a) b) (spread (a + 1) bs) e in
    let here : a + 0 ≡ a = omega arith in
    let is : b ≡ c = cc in
    ap (λ k. batch_at k ds) here ∙ ap (batch_at a) parts.is ∙ ap (map (λ (d : Delivered). d.message))
    (at-first a b bs parts.one parts.two parts.first parts.second)
    ∙ two-ways parts.one ∙ ap (map (λ (n : ℕ × Message). n.1)) parts.first ∙ of-one a b ∙ is
  where
    two-ways : (es : List Delivered) → map (λ (d : Delivered). d.message) es ≡ map (λ (n : ℕ × Message). n.1) (map named_at es)
    two-ways [] = refl
    two-ways (e ∷ es) = ap (λ ms. e.message ∷ ms) (two-ways es)
batch-from a (b ∷ bs) ds e (suc j) c at =
    let parts = split named_at ds (map (with_place a) b) (spread (a + 1) bs) e in
    let here : a + suc j ≡ (a + 1) + j = omega arith in
    ap (λ k. batch_at k ds) here ∙ ap (batch_at ((a + 1) + j)) parts.is
    ∙ ap (map (λ (d : Delivered). d.message)) (at-later a b bs parts.one parts.two parts.first parts.second ((a + 1) + j) (omega arith))
    ∙ batch-from (a + 1) bs parts.two parts.second j c at

-- what stands at a place is its batch
batch-of : (bs : List Batch) (ds : List Delivered) → map named_at ds ≡ spread 0 bs → (k : ℕ) (b : Batch) → slice_get bs k ≡ Some b
    → batch_at k ds ≡ b
batch-of bs ds e k b at = let same : k ≡ 0 + k = omega arith in ap (λ k. batch_at k ds) same ∙ batch-from 0 bs ds e k b at

-- ---- so it is at the end

module _ (f : Family) (premises : Premises f) where
  pub nothing-stands : (ds : List Delivered) → ds ≡ [] → IsByPlace ds
  nothing-stands [] e = record { together = refl; batches = λ k lt. absurd (omega (arith, lt)) }
  nothing-stands (d ∷ ds) e = absurd cc

  pub view-stands : (v : View) → IsOneView f v → (c : Correct) → Mem c f.correct → (ds : List Delivered)
      → ViewSo f.setting c.turns (end_of f.setting c) v ds → IsByPlace ds
  view-stands v one c m ds so = record {
    together = ap (λ n. flat_map (λ k. at_place k ds) (range_with_len 0 n)) so.count ∙ together-from 0 so.batches ds so.as_placed;
    batches = λ k lt.
        let b = get-some so.batches k (let count = so.count in omega (arith, lt, count)) in
        let test = batch-there f v one c m ds so k b.0 b.1 in
        let some = ltb-true 0 (length b.0) (and-first (nat_lt 0 (length b.0)) (nat_le (length b.0) 16) test) in
        let few = leb-true (length b.0) 16 (and-second (nat_lt 0 (length b.0)) (nat_le (length b.0) 16) test) in
        let is : length (batch_at k ds) ≡ length b.0 = ap length (batch-of so.batches ds so.as_placed k b.0 b.1) in
        let long = length-map (at_place k ds) (λ (d : Delivered). d.message) in
        (omega (arith, some, is, long), omega (arith, few, is, long));
  }

  stands : (c : Correct) → Mem c f.correct → (x : ℕ) → IsByPlace (delivered_in (account_of (end_of f.setting c)) x)
  stands c m x = go (part f.setting c.turns (end_of f.setting c) (of-history f premises c) x)
    where
      go : Part f.setting c.turns (end_of f.setting c) x → IsByPlace (delivered_in (account_of (end_of f.setting c)) x)
      go (nothing none) = nothing-stands _ none
      go (something v at so) = view-stands v (one-view f premises c m v (slice_get-mem (views_of (end_of f.setting c)) x v at)) c m _ so

  pub none-there : (ds : List Delivered) (k : ℕ) → ds ≡ [] → k < places_in ds → ⊥
  none-there ds k e lt = let none : places_in ds ≡ 0 = ap places_in e in absurd (omega (arith, none, lt))

  pub views-same : (v : View) → IsOneView f v → (c c' : Correct) → Mem c f.correct → Mem c' f.correct → (ds es : List Delivered)
      → ViewSo f.setting c.turns (end_of f.setting c) v ds → ViewSo f.setting c'.turns (end_of f.setting c') v es → HaveSameBatches ds es
  views-same v one c c' m m' ds es so so' k lt lt' =
      let b = get-some so.batches k (let count = so.count in omega (arith, lt, count)) in
      let b' = get-some so'.batches k (let count = so'.count in omega (arith, lt', count)) in
      batch-of so.batches ds so.as_placed k b.0 b.1 ∙ same-batch f v one c c' m m' ds es so so' k b.0 b'.0 b.1 b'.1 ∙ sym
      (batch-of so'.batches es so'.as_placed k b'.0 b'.1)

  abbrev of_view : Correct → ℕ → List Delivered
  of_view c x = delivered_in (account_of (end_of f.setting c)) x

  same : (c c' : Correct) → Mem c f.correct → Mem c' f.correct → (x : ℕ) → HaveSameBatches (of_view c x) (of_view c' x)
  same c c' m m' x k lt lt' = go (part f.setting c.turns (end_of f.setting c) (of-history f premises c) x)
      (part f.setting c'.turns (end_of f.setting c') (of-history f premises c') x)
    where
      go : Part f.setting c.turns (end_of f.setting c) x → Part f.setting c'.turns (end_of f.setting c') x
          → batch_at k (of_view c x) ≡ batch_at k (of_view c' x)
      go (nothing none) there = absurd (none-there (of_view c x) k none lt)
      go here (nothing none) = absurd (none-there (of_view c' x) k none lt')
      go (something v in_v so) (something w in_w so_w) =
          let is : v ≡ w = views-agree f premises x c c' m m' v w in_v in_w in
          let one = one-view f premises c m v (slice_get-mem (views_of (end_of f.setting c)) x v in_v) in
          views-same v one c c' m m' (of_view c x)
          (of_view c' x) so (subst (λ v. ViewSo f.setting c'.turns (end_of f.setting c') v (of_view c' x)) (sym is) so_w) k lt lt'

  pub are-placed : ArePlaced (accounts f)
  are-placed = record {
    by_place = each-account f (λ a. (x : ℕ) → IsByPlace (delivered_in a x)) stands;
    same = each-account f (λ a. All (λ b. (x : ℕ) → HaveSameBatches (delivered_in a x) (delivered_in b x)) (accounts f))
        (λ c m. each-account f (λ b. (x : ℕ) → HaveSameBatches (delivered_in (account_of (end_of f.setting c)) x) (delivered_in b x))
        (λ c' m'. same c c' m m'));
  }
