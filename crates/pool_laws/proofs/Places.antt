-- What stands at a place of a list, and lists that begin alike.
use Rattle.std.proofs.Common.{◌≡◌, ◌⊎◌, inl, inr, ℕ, zero, suc, ◌<◌, ◌≤◌, List, [], ◌∷◌, ◌++◌, map, length, take, Some, Bool, true, false, refl, sym, ap, ◌∙◌, subst, arith, slice_get, drop, ◌+◌}
use Rattle.std.specs.Prelude.{if◌then◌else◌, filter, nat_lt, slice_index_or, AllPairs}
use Rattle.std.proofs.lemmas.Bool.{ltb-true, ltb-false}
use Rattle.std.proofs.lemmas.List.{append-nil, append_assoc, map-append}
use Rattle.group_defs.specs.Accounts.{IsPrefixOf, longest}
use Rattle.std.specs.List.{range_with_len}
use Rattle.pool_laws.proofs.Members.{Mem}

pub slice_get-mem : {A : Type 0} (xs : List A) (i : ℕ) (y : A) → slice_get xs i ≡ Some y → Mem y xs
slice_get-mem [] i y e = absurd cc
slice_get-mem (x ∷ xs) zero y e = inl cc
slice_get-mem (x ∷ xs) (suc i) y e = inr (slice_get-mem xs i y e)

pub mem-slice_get : {A : Type 0} (xs : List A) (y : A) → Mem y xs → (i : ℕ) × (slice_get xs i ≡ Some y)
mem-slice_get [] y m = absurd m
mem-slice_get (x ∷ xs) y (inl e) = (zero, cc)
mem-slice_get (x ∷ xs) y (inr m) = let at = mem-slice_get xs y m in (suc at.0, at.1)

pub slice_get-length : {A : Type 0} (xs : List A) (i : ℕ) (y : A) → slice_get xs i ≡ Some y → i < length xs
slice_get-length [] i y e = absurd cc
slice_get-length (x ∷ xs) zero y e = omega arith
slice_get-length (x ∷ xs) (suc i) y e = let rest = slice_get-length xs i y e in omega (arith, rest)

pub get-some : {A : Type 0} (xs : List A) (i : ℕ) → i < length xs → (y : A) × (slice_get xs i ≡ Some y)
get-some [] i lt = absurd (omega (arith, lt))
get-some (x ∷ xs) zero lt = (x, refl)
get-some (x ∷ xs) (suc i) lt = get-some xs i (omega (arith, lt))

pub slice_get-index : {A : Type 0} (xs : List A) (i : ℕ) (d : A) → i < length xs → slice_get xs i ≡ Some (slice_index_or xs i d)
slice_get-index [] i d lt = absurd (omega (arith, lt))
slice_get-index (x ∷ xs) zero d lt = refl
slice_get-index (x ∷ xs) (suc i) d lt = slice_get-index xs i d (omega (arith, lt))

pub index-is : {A : Type 0} (xs : List A) (i : ℕ) (d y : A) → slice_get xs i ≡ Some y → slice_index_or xs i d ≡ y
index-is [] i d y e = absurd cc
index-is (x ∷ xs) zero d y e = cc
index-is (x ∷ xs) (suc i) d y e = index-is xs i d y e

pub index-beyond : {A : Type 0} (xs : List A) (i : ℕ) (d : A) → length xs ≤ i → slice_index_or xs i d ≡ d
index-beyond [] i d le = refl
index-beyond (x ∷ xs) zero d le = absurd (omega (arith, le))
index-beyond (x ∷ xs) (suc i) d le = index-beyond xs i d (omega (arith, le))

-- ---- of what is made of a list

-- at its end, or where it was
pub slice_get-snoc : {A : Type 0} (xs : List A) (last : A) (i : ℕ) (y : A) → slice_get (xs ++ last ∷ []) i ≡ Some y
    → (slice_get xs i ≡ Some y) ⊎ ((i ≡ length xs) × (last ≡ y))
slice_get-snoc [] last zero y e = inr (refl, cc)
slice_get-snoc [] last (suc i) y e = absurd cc
slice_get-snoc (x ∷ xs) last zero y e = inl e
slice_get-snoc (x ∷ xs) last (suc i) y e = elim
    (slice_get-snoc xs last i y e) [ inl here ↦ inl here | inr end ↦ inr ((λ j. suc (end.0 j)), end.1) ]

pub slice_get-last : {A : Type 0} (xs : List A) (last : A) (i : ℕ) → i ≡ length xs → slice_get (xs ++ last ∷ []) i ≡ Some last
slice_get-last [] last i e = subst (λ i. slice_get (last ∷ []) i ≡ Some last) (sym e) refl
slice_get-last (x ∷ xs) last zero e = absurd (omega (arith, e))
slice_get-last (x ∷ xs) last (suc i) e = slice_get-last xs last i (omega (arith, e))

pub slice_get-front : {A : Type 0} (xs ys : List A) (i : ℕ) (y : A) → slice_get xs i ≡ Some y → slice_get (xs ++ ys) i ≡ Some y
slice_get-front [] ys i y e = absurd cc
slice_get-front (x ∷ xs) ys zero y e = e
slice_get-front (x ∷ xs) ys (suc i) y e = slice_get-front xs ys i y e

pub get-append : {A : Type 0} (xs ys : List A) (i : ℕ) (y : A) → slice_get (xs ++ ys) i ≡ Some y
    → (slice_get xs i ≡ Some y) ⊎ ((j : ℕ) × (i ≡ length xs + j) × (slice_get ys j ≡ Some y))
get-append [] ys i y e = inr (i, omega arith, e)
get-append (x ∷ xs) ys zero y e = inl e
get-append (x ∷ xs) ys (suc i) y e = elim
    (get-append xs ys i y e) [ inl here ↦ inl here | inr there ↦ inr (there.0, (let is = there.1 in omega (arith, is)), there.2) ]

pub length-snoc : {A : Type 0} (xs : List A) (last : A) → length (xs ++ last ∷ []) ≡ suc (length xs)
length-snoc [] last = refl
length-snoc (x ∷ xs) last = ap suc (length-snoc xs last)

pub get-map : {A B : Type 0} (g : A → B) (xs : List A) (i : ℕ) (y : B) → slice_get (map g xs) i ≡ Some y
    → (x : A) × (slice_get xs i ≡ Some x) × (g x ≡ y)
get-map g [] i y e = absurd cc
get-map g (x ∷ xs) zero y e = (x, refl, cc)
get-map g (x ∷ xs) (suc i) y e = get-map g xs i y e

pub map-get : {A B : Type 0} (g : A → B) (xs : List A) (i : ℕ) (x : A) → slice_get xs i ≡ Some x → slice_get (map g xs) i ≡ Some (g x)
map-get g [] i x e = absurd cc
map-get g (y ∷ ys) zero x e = cc
map-get g (y ∷ ys) (suc i) x e = map-get g ys i x e

pub take-get : {A : Type 0} (k : ℕ) (xs : List A) (j : ℕ) (y : A) → slice_get (take k xs) j ≡ Some y → slice_get xs j ≡ Some y
take-get zero xs j y e = absurd (none-at j y e)
  where
    none-at : {A : Type 0} (j : ℕ) (y : A) → slice_get (take zero []) j ≡ Some y → ⊥
    none-at j y e = cc
take-get (suc k) [] j y e = absurd cc
take-get (suc k) (x ∷ xs) zero y e = e
take-get (suc k) (x ∷ xs) (suc j) y e = take-get k xs j y e

pub get-drop : {A : Type 0} (n : ℕ) (xs : List A) (i j : ℕ) (y : A) → j ≡ n + i → slice_get (drop n xs) i ≡ Some y → slice_get xs j ≡ Some y
get-drop zero xs i j y e at = let same : i ≡ j = omega (arith, e) in subst (λ k. slice_get xs k ≡ Some y) same at
get-drop (suc n) [] i j y e at = absurd cc
get-drop (suc n) (x ∷ xs) i zero y e at = absurd (omega (arith, e))
get-drop (suc n) (x ∷ xs) i (suc j) y e at = get-drop n xs i j y (omega (arith, e)) at

pub take-length : {A : Type 0} (k : ℕ) (xs : List A) → k ≤ length xs → length (take k xs) ≡ k
take-length zero xs le = refl
take-length (suc k) [] le = absurd (omega (arith, le))
take-length (suc k) (x ∷ xs) le = ap suc (take-length k xs (omega (arith, le)))

pub take-one : {A : Type 0} (xs : List A) (i : ℕ) (x : A) → slice_get xs i ≡ Some x → take 1 (drop i xs) ≡ x ∷ []
take-one [] i x e = absurd cc
take-one (y ∷ ys) zero x e = let is : y ≡ x = cc in ap (λ y. y ∷ []) is
take-one (y ∷ ys) (suc i) x e = take-one ys i x e

-- what passes stands behind those before it that pass
pub filter-at : {A : Type 0} (test : A → Bool) (xs : List A) (k : ℕ) (x : A) → slice_get xs k ≡ Some x → test x ≡ true
    → slice_get (filter test xs) (length (filter test (take k xs))) ≡ Some x
filter-at test [] k x at e = absurd cc
filter-at test (y ∷ ys) zero x at e = go (test y) (let is : y ≡ x = cc in ap test is ∙ e)
  where
    go : (b : Bool) → b ≡ true → slice_get (if b then y ∷ filter test ys else filter test ys) 0 ≡ Some x
    go true f = at
    go false f = absurd cc
filter-at test (y ∷ ys) (suc k) x at e = go (test y) (filter-at test ys k x at e)
  where
    go : (b : Bool) → slice_get (filter test ys) (length (filter test (take k ys))) ≡ Some x
        → slice_get (if b then y ∷ filter test ys else filter test ys)
        (length (if b then y ∷ filter test (take k ys) else filter test (take k ys))) ≡ Some x
    go true rest = rest
    go false rest = rest

-- ---- numbers in a row

pub range-mem : (a n x : ℕ) → a ≤ x → x < a + n → Mem x (range_with_len a n)
range-mem a zero x le lt = absurd (omega (arith, le, lt))
range-mem a (suc n) x le lt = go (nat_lt a x) refl (λ more. range-mem (a + 1) n x (omega (arith, more)) (omega (arith, lt)))
  where
    go : (b : Bool) → nat_lt a x ≡ b → (a < x → Mem x (range_with_len (a + 1) n)) → Mem x (range_with_len a (suc n))
    go false e later = inl (let ge = ltb-false a x e in omega (arith, ge, le))
    go true e later = inr (later (ltb-true a x e))

pub mem-range : (a n x : ℕ) → Mem x (range_with_len a n) → x < a + n
mem-range a zero x m = absurd m
mem-range a (suc n) x (inl e) = omega (arith, e)
mem-range a (suc n) x (inr m) = let rest = mem-range (a + 1) n x m in omega (arith, rest)

pub range-get : (a n i y : ℕ) → slice_get (range_with_len a n) i ≡ Some y → y ≡ a + i
range-get a zero i y e = absurd cc
range-get a (suc n) zero y e = let is : a ≡ y = cc in omega (arith, is)
range-get a (suc n) (suc i) y e = let rest = range-get (a + 1) n i y e in omega (arith, rest)

-- ---- two places

-- one place is before the other, or they are one
pub data Compared (i j : ℕ) : Type 0 where
  ahead : i < j → Compared i j
  level : i ≡ j → Compared i j
  behind : j < i → Compared i j

pub compared : (i j : ℕ) → Compared i j
compared i j = go (nat_lt i j) refl (nat_lt j i) refl
  where
    go : (a : Bool) → nat_lt i j ≡ a → (b : Bool) → nat_lt j i ≡ b → Compared i j
    go true e b f = ahead (ltb-true i j e)
    go false e true f = behind (ltb-true j i f)
    go false e false f = level (let le = ltb-false i j e in let ge = ltb-false j i f in omega (arith, le, ge))

-- R holds of what stands at two places, the earlier one first
abbrev pub Pairs : {A : Type 0} → (A → A → Type 0) → List A → Type 0
Pairs {A} R xs = (i j : ℕ) (a b : A) → i < j → slice_get xs i ≡ Some a → slice_get xs j ≡ Some b → R a b

pub pairs-snoc : {A : Type 0} (R : A → A → Type 0) (xs : List A) (last : A) → Pairs R xs → ((a : A) → Mem a xs → R a last)
    → Pairs R (xs ++ last ∷ [])
pairs-snoc R xs last pairs owed i j a b lt at_i at_j = elim (slice_get-snoc xs last i a at_i) [
  | inl before ↦ elim (slice_get-snoc xs last j b at_j) [
    | inl then_ ↦ pairs i j a b lt before then_
    | inr end ↦ subst (R a) end.1 (owed a (slice_get-mem xs i a before))
  ]
  | inr end ↦ elim (slice_get-snoc xs last j b at_j) [
    | inl then_ ↦ absurd (let far = slice_get-length xs j b then_ in omega (arith, far, end.0))
    | inr end' ↦ absurd (omega (arith, end.0, end'.0))
  ]
]

pub pairs-all : {A : Type 0} (R : A → A → Type 0) (xs : List A) → Pairs R xs → AllPairs R xs
pairs-all R xs pairs i j d lt far = pairs i j (slice_index_or xs i d)
    (slice_index_or xs j d) lt (slice_get-index xs i d (omega (arith, lt, far))) (slice_get-index xs j d far)

pub all-pairs : {A : Type 0} (R : A → A → Type 0) (xs : List A) → AllPairs R xs → Pairs R xs
all-pairs R xs all i j a b lt at_i at_j =
    subst (λ c. R c b) (index-is xs i a a at_i)
    (subst (R (slice_index_or xs i a)) (index-is xs j a b at_j) (all i j a lt (slice_get-length xs j b at_j)))

-- ---- prefixes

pub prefix-self : {A : Type 0} (xs : List A) → IsPrefixOf xs xs
prefix-self xs = ([], append-nil xs)

pub prefix-more : {A : Type 0} (xs ys zs : List A) → IsPrefixOf xs ys → IsPrefixOf xs (ys ++ zs)
prefix-more xs ys zs p = (p.0 ++ zs, sym (append_assoc xs p.0 zs) ∙ ap (λ ys. ys ++ zs) p.1)

pub prefix-trans : {A : Type 0} (xs ys zs : List A) → IsPrefixOf xs ys → IsPrefixOf ys zs → IsPrefixOf xs zs
prefix-trans xs ys zs p q = (p.0 ++ q.0, sym (append_assoc xs p.0 q.0) ∙ ap (λ ys. ys ++ q.0) p.1 ∙ q.1)

pub prefix-map : {A B : Type 0} (f : A → B) (xs ys : List A) → IsPrefixOf xs ys → IsPrefixOf (map f xs) (map f ys)
prefix-map f xs ys p = (map f p.0, sym (map-append f xs p.0) ∙ ap (map f) p.1)

pub prefix-equal : {A : Type 0} (xs ys : List A) → IsPrefixOf xs ys → length ys ≤ length xs → xs ≡ ys
prefix-equal [] [] p le = refl
prefix-equal [] (y ∷ ys) p le = absurd (omega (arith, le))
prefix-equal (x ∷ xs) [] p le = absurd (let e = p.1 in cc)
prefix-equal {A} (x ∷ xs) (y ∷ ys) p le =
    let tails : xs ++ p.0 ≡ ys = tail-is (xs ++ p.0) p.1 in
    let head : x ≡ y = head-is (xs ++ p.0) p.1 in
    let rest = prefix-equal xs ys (p.0, tails) (omega (arith, le)) in
    λ i. head i ∷ rest i
  where
    head-is : (zs : List A) → x ∷ zs ≡ y ∷ ys → x ≡ y
    head-is zs e = cc

    tail-is : (zs : List A) → x ∷ zs ≡ y ∷ ys → zs ≡ ys
    tail-is zs e = cc

pub prefix-by : {A : Type 0} (xs ys : List A) → length xs ≤ length ys
    → ((k : ℕ) (x y : A) → slice_get xs k ≡ Some x → slice_get ys k ≡ Some y → x ≡ y) → IsPrefixOf xs ys
prefix-by [] ys le same = (ys, refl)
prefix-by (x ∷ xs) [] le same = absurd (omega (arith, le))
prefix-by (x ∷ xs) (y ∷ ys) le same =
    let rest = prefix-by xs ys (omega (arith, le)) (λ k a b at at'. same (suc k) a b at at') in
    (rest.0, λ i. same zero x y refl refl i ∷ rest.1 i)

pub equal-by : {A : Type 0} (xs ys : List A) → length xs ≡ length ys
    → ((k : ℕ) (x y : A) → slice_get xs k ≡ Some x → slice_get ys k ≡ Some y → x ≡ y) → xs ≡ ys
equal-by [] [] e same = refl
equal-by [] (y ∷ ys) e same = absurd (omega (arith, e))
equal-by (x ∷ xs) [] e same = absurd (omega (arith, e))
equal-by (x ∷ xs) (y ∷ ys) e same = let rest = equal-by xs ys (omega (arith, e))
    (λ k a b at at'. same (suc k) a b at at') in λ i. same zero x y refl refl i ∷ rest i

-- ---- the longest

pub longest-mem : {A : Type 0} (xss : List (List A)) (xs : List A) → Mem xs xss → Mem (longest xss) xss
longest-mem [] xs m = m
longest-mem {A} (ys ∷ []) xs m = go (nat_lt (length ys) (length (longest {A = A} []))) refl
  where
    go : (b : Bool) → nat_lt (length ys) (length (longest {A = A} [])) ≡ b → Mem (if b then longest [] else ys) (ys ∷ [])
    go true e = absurd (let lt = ltb-true (length ys) 0 e in omega (arith, lt))
    go false e = inl refl
longest-mem (ys ∷ zs ∷ more) xs m = go (nat_lt (length ys) (length (longest (zs ∷ more)))) (longest-mem (zs ∷ more) zs (inl refl))
  where
    go : (b : Bool) → Mem (longest (zs ∷ more)) (zs ∷ more) → Mem (if b then longest (zs ∷ more) else ys) (ys ∷ zs ∷ more)
    go true rest = inr rest
    go false rest = inl refl

pub longest-most : {A : Type 0} (xss : List (List A)) (xs : List A) → Mem xs xss → length xs ≤ length (longest xss)
longest-most [] xs m = absurd m
longest-most {A} (ys ∷ more) xs m = go (nat_lt (length ys) (length (longest more))) refl m (longest-most more xs)
  where
    go : (b : Bool) → nat_lt (length ys) (length (longest more)) ≡ b → (ys ≡ xs) ⊎ Mem xs more
        → (Mem xs more → length xs ≤ length (longest more)) → length xs ≤ length (if b then longest more else ys)
    go true e (inl is) rest = let lt = ltb-true (length ys) (length (longest more)) e in let same : length ys
        ≡ length xs = ap length is in omega (arith, lt, same)
    go true e (inr m) rest = rest m
    go false e (inl is) rest = let same : length ys ≡ length xs = ap length is in omega (arith, same)
    go false e (inr m) rest = let le = rest m in let ge = ltb-false (length ys) (length (longest more)) e in omega (arith, le, ge)
