-- What the walks over lists say.
use Rattle.std.proofs.Common.{◌≡◌, ◌≢◌, ℕ, zero, suc, ◌+◌, ◌<◌, ◌≤◌, List, [], ◌∷◌, map, Bool, true, false, refl, sym, ◌∙◌, ap, subst, inl, inr, arith}
use Rattle.std.specs.Prelude.{◌||◌, not, nat_le, ◌==◌, AllPairs, slice_index, ◌↔◌, IsTrue}
use Rattle.std.specs.List.Sorted.{IsStrictlyIncreasing}
use Rattle.std.proofs.lemmas.Bool.{leb-true, le-leb, eqb-true, eq-eqb}
use Rattle.byte_defs.specs.Members.{has}
use Rattle.std.proofs.lemmas.List.Kept.{AllPairs-cons}
use Rattle.pool_laws.proofs.Members.{Mem, mem-All}
use Rattle.pool_laws.proofs.Places.{Pairs, all-pairs, pairs-all, mem-slice_get, map-get, get-map}
use Rattle.pool_laws.proofs.Tests.{and-first, and-second, both-true}
use Rattle.rp_base.specs.Pids.{put_once}
use Rattle.claim_index.proofs.Sets.{has-put_once}
use Rattle.kept_images.specs.Tests.{are_others, rise_from}

-- ---- rising

rises : (least : ℕ) (xs : List ℕ) → rise_from least xs ≡ true → IsStrictlyIncreasing xs
rises least [] ok k lt = absurd (omega (arith, lt))
rises least (x ∷ []) ok k lt = absurd (omega (arith, lt))
rises least (x ∷ y ∷ more) ok zero lt =
    let next = and-second (nat_le least x) (rise_from (x + 1) (y ∷ more)) ok in
    let le = leb-true (x + 1) y (and-first (nat_le (x + 1) y) (rise_from (y + 1) more) next) in
    omega (arith, le)
rises least (x ∷ y ∷ more) ok (suc k) lt =
    let next : suc k + 1 ≡ suc (k + 1) = omega arith in
    let rest = rises (x + 1) (y ∷ more) (and-second (nat_le least x) (rise_from (x + 1) (y ∷ more)) ok) k (omega (arith, lt)) in
    subst (λ j. slice_index (y ∷ more) k < slice_index (x ∷ y ∷ more) j) (sym next) rest

tail-rises : (x : ℕ) (xs : List ℕ) → IsStrictlyIncreasing (x ∷ xs) → IsStrictlyIncreasing xs
tail-rises x xs up k lt =
    let next : suc k + 1 ≡ suc (k + 1) = omega arith in
    subst (λ j. slice_index xs k < slice_index (x ∷ xs) j) next (up (suc k) (omega (arith, lt)))

rising : (least : ℕ) (xs : List ℕ) → IsStrictlyIncreasing xs → ((x : ℕ) (more : List ℕ) → xs ≡ x ∷ more → least ≤ x)
    → rise_from least xs ≡ true
rising least [] up above = refl
rising least (x ∷ []) up above = both-true (nat_le least x) true (le-leb least x (above x [] refl)) refl
rising least (x ∷ y ∷ more) up above =
    both-true (nat_le least x) (rise_from (x + 1) (y ∷ more)) (le-leb least x (above x (y ∷ more) refl))
    (rising (x + 1) (y ∷ more) (tail-rises x (y ∷ more) up)
    (λ z zs is. (let lt : x < y = up zero (omega arith) in
    subst (λ (w : ℕ). x + 1 ≤ w) (ap (λ (l : List ℕ). slice_index l 0) is) (omega (arith, lt)))))

-- ---- each another

abbrev Differ : List ℕ → Type 0
Differ [] = Unit {0}
Differ (x ∷ xs) = ((y : ℕ) → Mem y xs → x ≢ y) × Differ xs

record Apart (seen xs : List ℕ) : Type 0 where
  each : (x : ℕ) → Mem x xs → has seen x ≡ false
  pairs : Differ xs

false-of : (b : Bool) → not b ≡ true → b ≡ false
false-of true e = absurd cc
false-of false e = refl

or-false : (a b : Bool) → (a || b) ≡ false → (a ≡ false) × (b ≡ false)
or-false true b e = absurd cc
or-false false b e = (refl, e)

neither-one : (a b : Bool) → a ≡ false → b ≡ false → (a || b) ≡ false
neither-one true b e f = absurd cc
neither-one false b e f = f

apart : (seen xs : List ℕ) → are_others seen xs ≡ true → Apart seen xs
apart seen [] ok = record { each = λ x m. absurd m; pairs = tt }
apart seen (x ∷ xs) ok =
    let first = false-of (has seen x) (and-first (not (has seen x)) (are_others (put_once x seen) xs) ok) in
    let rest = apart (put_once x seen) xs (and-second (not (has seen x)) (are_others (put_once x seen) xs) ok) in
    let two : (y : ℕ) → Mem y xs → ((x == y) ≡ false) × (has seen y ≡ false) = λ y m. or-false (x == y) (has seen y)
    (sym (has-put_once x y seen) ∙ rest.each y m) in
    record {
      each = λ y m. elim m [ inl is ↦ subst (λ (z : ℕ). has seen z ≡ false) is first | inr there ↦ (two y there).1 ];
      pairs = (λ y m is. absurd (true-false (x == y) (eq-eqb x y is) (two y m).0), rest.pairs);
    }
  where
    true-false : (b : Bool) → b ≡ true → b ≡ false → ⊥
    true-false b e f = cc

back : (seen xs : List ℕ) → Apart seen xs → are_others seen xs ≡ true
back seen [] so = refl
back seen (x ∷ xs) so = both-true (not (has seen x)) (are_others (put_once x seen) xs) (ap not (so.each x (inl refl)))
    (back (put_once x seen) xs (record {
      each = λ y m. has-put_once x y seen ∙ neither-one (x == y) (has seen y) (differs y m) (so.each y (inr m));
      pairs = so.pairs.1;
    }))
  where
    differs : (y : ℕ) → Mem y xs → (x == y) ≡ false
    differs y m = go (x == y) refl
      where
        go : (b : Bool) → (x == y) ≡ b → b ≡ false
        go true e = absurd (so.pairs.0 y m (eqb-true x y e))
        go false e = refl

all-differ : (xs : List ℕ) → Differ xs → AllPairs (λ m n. m ≢ n) xs
all-differ [] so = λ i j d lt far. absurd (omega (arith, far))
all-differ (x ∷ xs) so = AllPairs-cons (λ m n. m ≢ n) x xs (mem-All (λ (y : ℕ). x ≢ y) xs so.0) (all-differ xs so.1)

differ-all : (xs : List ℕ) → Pairs (λ m n. m ≢ n) xs → Differ xs
differ-all [] so = tt
differ-all (x ∷ xs) so = (
  λ y m. (let at = mem-slice_get xs y m in so 0 (suc at.0) x y (omega arith) refl at.1),
  differ-all xs (λ i j a b lt at_i at_j. so (suc i) (suc j) a b (omega (arith, lt)) at_i at_j),
)

others-differ : (xs : List ℕ) → are_others [] xs ≡ true → AllPairs (λ m n. m ≢ n) xs
others-differ xs ok = all-differ xs (apart [] xs ok).pairs

differ-others : (xs : List ℕ) → AllPairs (λ m n. m ≢ n) xs → are_others [] xs ≡ true
differ-others xs all = back [] xs (record { each = λ x m. refl; pairs = differ-all xs (all-pairs (λ m n. m ≢ n) xs all) })

keys-apart : {A : Type 0} (f : A → ℕ) (xs : List A) → AllPairs (λ m n. m ≢ n) (map f xs) → AllPairs (λ a b. f a ≢ f b) xs
keys-apart f xs all = pairs-all (λ a b. f a ≢ f b) xs
    (λ i j a b lt at_i at_j. all-pairs (λ m n. m ≢ n) (map f xs) all i j (f a) (f b) lt (map-get f xs i a at_i) (map-get f xs j b at_j))

apart-keys : {A : Type 0} (f : A → ℕ) (xs : List A) → AllPairs (λ a b. f a ≢ f b) xs → AllPairs (λ m n. m ≢ n) (map f xs)
apart-keys f xs all = pairs-all (λ m n. m ≢ n) (map f xs) (λ i j m n lt at_i at_j is.
    (let x = get-map f xs i m at_i in
    let y = get-map f xs j n at_j in
    all-pairs (λ a b. f a ≢ f b) xs all i j x.0 y.0 lt x.1 y.1 (x.2 ∙ is ∙ sym y.2)))

-- the keys of these are each another one
pub keys-differ : {A : Type 0} (f : A → ℕ) (xs : List A) (b : Bool) → b ≡ are_others [] (map f xs) → IsTrue b ↔ AllPairs (λ a b. f a ≢ f b) xs
keys-differ f xs b is =
    (λ ok. keys-apart f xs (others-differ (map f xs) (sym is ∙ ok)), λ all. is ∙ differ-others (map f xs) (apart-keys f xs all))

-- the walk from 0 on says what rises
pub walk-rises : (xs : List ℕ) (b : Bool) → b ≡ rise_from 0 xs → IsTrue b ↔ IsStrictlyIncreasing xs
walk-rises xs b is = (λ ok. rises 0 xs (sym is ∙ ok), λ up. is ∙ rising 0 xs up (λ x more e. omega arith))
