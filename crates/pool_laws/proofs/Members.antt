-- Members of lists.
use Rattle.std.proofs.Common.{◌≡◌, ◌⊎◌, inl, inr, ℕ, zero, suc, ◌<◌, List, [], ◌∷◌, ◌++◌, map, length, drop, Option, Some, None, Bool, true, false, refl, sym, ap, subst, arith}
use Rattle.std.specs.Prelude.{if◌then◌else◌, ◌&&◌, ◌||◌, filter, filter_map, find, flat_map, All, Contains, slice_index_or}
use Rattle.std.specs.List.{list_any, list_all, cons_option}
use Rattle.std.proofs.lemmas.List.Elements.{All-contains}
use Rattle.group_defs.specs.Below.{put, numbers_below}
use Rattle.pool_laws.proofs.Tests.{and-first, and-second}

abbrev pub Mem : {A : Type 0} → A → List A → Type 0
Mem y [] = ⊥
Mem y (x ∷ xs) = (x ≡ y) ⊎ Mem y xs

pub mem-some : {A : Type 0} (xs : List A) (y : A) → Mem y xs → 0 < length xs
mem-some [] y m = absurd m
mem-some (x ∷ xs) y m = omega arith

pub some-mem : {A : Type 0} (xs : List A) → 0 < length xs → (x : A) × Mem x xs
some-mem [] lt = absurd (omega (arith, lt))
some-mem (x ∷ xs) lt = (x, inl refl)

pub none-in : {A : Type 0} (xs : List A) → ((x : A) → Mem x xs → ⊥) → xs ≡ []
none-in [] not = refl
none-in (x ∷ xs) not = absurd (not x (inl refl))

-- ---- in std's words

pub mem-Contains : {A : Type 0} (xs : List A) (y : A) → Mem y xs → Contains xs y
mem-Contains [] y m = absurd m
mem-Contains (x ∷ xs) y (inl e) = (0, omega arith, e)
mem-Contains (x ∷ xs) y (inr m) = let at = mem-Contains xs y m in (suc at.0, (let lt = at.1 in omega (arith, lt)), at.2)

pub place-mem : {A : Type 0} (xs : List A) (y : A) (k : ℕ) → k < length xs → slice_index_or xs k y ≡ y → Mem y xs
place-mem [] y k lt e = absurd (omega (arith, lt))
place-mem (x ∷ xs) y zero lt e = inl e
place-mem (x ∷ xs) y (suc k) lt e = inr (place-mem xs y k (omega (arith, lt)) e)

pub Contains-mem : {A : Type 0} (xs : List A) (y : A) → Contains xs y → Mem y xs
Contains-mem xs y c = place-mem xs y c.0 c.1 c.2

pub index-mem : {A : Type 0} (xs : List A) (i : ℕ) (d : A) → i < length xs → Mem (slice_index_or xs i d) xs
index-mem [] i d lt = absurd (omega (arith, lt))
index-mem (x ∷ xs) zero d lt = inl refl
index-mem (x ∷ xs) (suc i) d lt = inr (index-mem xs i d (omega (arith, lt)))

pub All-mem : {A : Type 0} (P : A → Type 0) (xs : List A) (x : A) → All P xs → Mem x xs → P x
All-mem P xs x all m = All-contains P xs x all (mem-Contains xs x m)

pub mem-All : {A : Type 0} (P : A → Type 0) (xs : List A) → ((x : A) → Mem x xs → P x) → All P xs
mem-All P xs each k d lt = each (slice_index_or xs k d) (index-mem xs k d lt)

-- ---- tests of each, and of some

pub each-list_all : {A : Type 0} (test : A → Bool) (xs : List A) → ((x : A) → Mem x xs → test x ≡ true) → list_all test xs ≡ true
each-list_all test [] each = refl
each-list_all test (x ∷ xs) each = go (test x) (each x (inl refl)) (each-list_all test xs (λ y m. each y (inr m)))
  where
    go : (b : Bool) → b ≡ true → list_all test xs ≡ true → (b && list_all test xs) ≡ true
    go true e rest = rest
    go false e rest = absurd cc

pub list_all-mem : {A : Type 0} (test : A → Bool) (xs : List A) (x : A) → list_all test xs ≡ true → Mem x xs → test x ≡ true
list_all-mem test [] x e m = absurd m
list_all-mem test (y ∷ ys) x e (inl same) = subst (λ z. test z ≡ true) same (and-first (test y) (list_all test ys) e)
list_all-mem test (y ∷ ys) x e (inr m) = list_all-mem test ys x (and-second (test y) (list_all test ys) e) m

pub mem-list_any : {A : Type 0} (test : A → Bool) (xs : List A) (y : A) → Mem y xs → test y ≡ true → list_any test xs ≡ true
mem-list_any test [] y m e = absurd m
mem-list_any test (x ∷ xs) y (inl same) e = go (test x) (subst (λ z. test z ≡ true) (sym same) e)
  where
    go : (b : Bool) → b ≡ true → (b || list_any test xs) ≡ true
    go true t = refl
    go false t = absurd cc
mem-list_any test (x ∷ xs) y (inr m) e = go (test x) (mem-list_any test xs y m e)
  where
    go : (b : Bool) → list_any test xs ≡ true → (b || list_any test xs) ≡ true
    go true t = refl
    go false t = t

pub list_any-mem : {A : Type 0} (test : A → Bool) (xs : List A) → list_any test xs ≡ true → (x : A) × Mem x xs × (test x ≡ true)
list_any-mem test [] e = absurd cc
list_any-mem {A} test (x ∷ xs) e = go (test x) refl e (list_any-mem test xs)
  where
    go : (b : Bool) → test x ≡ b → (b || list_any test xs) ≡ true → (list_any test xs ≡ true → (x : A) × Mem x xs × (test x ≡ true))
        → (y : A) × Mem y (x ∷ xs) × (test y ≡ true)
    go true t e rest = (x, inl refl, t)
    go false t e rest = let r = rest e in (r.0, inr r.1, r.2)

pub tested-all : {A : Type 0} (test : A → Bool) (P : A → Type 0) (xs : List A) → ((x : A) → test x ≡ true → P x) → list_all test xs ≡ true
    → All P xs
tested-all test P xs each e k d lt = each (slice_index_or xs k d) (list_all-mem test xs (slice_index_or xs k d) e (index-mem xs k d lt))

pub all-tested : {A : Type 0} (test : A → Bool) (P : A → Type 0) (xs : List A) → ((x : A) → P x → test x ≡ true) → All P xs
    → list_all test xs ≡ true
all-tested test P xs each all = each-list_all test xs (λ x m. each x (All-mem P xs x all m))

-- ---- of two lists

pub mem-append : {A : Type 0} (xs ys : List A) (y : A) → Mem y xs → Mem y (xs ++ ys)
mem-append [] ys y m = absurd m
mem-append (x ∷ xs) ys y (inl e) = inl e
mem-append (x ∷ xs) ys y (inr m) = inr (mem-append xs ys y m)

pub mem-behind : {A : Type 0} (xs ys : List A) (y : A) → Mem y ys → Mem y (xs ++ ys)
mem-behind [] ys y m = m
mem-behind (x ∷ xs) ys y m = inr (mem-behind xs ys y m)

pub append-mem : {A : Type 0} (xs ys : List A) (y : A) → Mem y (xs ++ ys) → Mem y xs ⊎ Mem y ys
append-mem [] ys y m = inr m
append-mem (x ∷ xs) ys y (inl e) = inl (inl e)
append-mem (x ∷ xs) ys y (inr m) = elim (append-mem xs ys y m) [ inl here ↦ inl (inr here) | inr there ↦ inr there ]

pub mem-snoc : {A : Type 0} (xs : List A) (last y : A) → Mem y xs → Mem y (xs ++ last ∷ [])
mem-snoc [] last y m = absurd m
mem-snoc (x ∷ xs) last y (inl e) = inl e
mem-snoc (x ∷ xs) last y (inr m) = inr (mem-snoc xs last y m)

pub snoc-mem : {A : Type 0} (xs : List A) (last y : A) → Mem y (xs ++ last ∷ []) → Mem y xs ⊎ (last ≡ y)
snoc-mem [] last y (inl e) = inr e
snoc-mem [] last y (inr m) = absurd m
snoc-mem (x ∷ xs) last y (inl e) = inl (inl e)
snoc-mem (x ∷ xs) last y (inr m) = elim (snoc-mem xs last y m) [ inl here ↦ inl (inr here) | inr e ↦ inr e ]

pub each-snoc : {A : Type 0} (P : A → Type 0) (xs : List A) (last : A) → ((x : A) → Mem x xs → P x) → P last → (x : A)
    → Mem x (xs ++ last ∷ []) → P x
each-snoc P xs last each at x m = elim (snoc-mem xs last x m) [ inl before ↦ each x before | inr is ↦ subst P is at ]

pub mem-drop : {A : Type 0} (n : ℕ) (xs : List A) (y : A) → Mem y (drop n xs) → Mem y xs
mem-drop zero xs y m = m
mem-drop (suc n) [] y m = m
mem-drop (suc n) (x ∷ xs) y m = inr (mem-drop n xs y m)

-- ---- of what is made of a list

pub mem-map : {A B : Type 0} (f : A → B) (xs : List A) (x : A) → Mem x xs → Mem (f x) (map f xs)
mem-map f [] x m = m
mem-map f (y ∷ ys) x (inl e) = inl (ap f e)
mem-map f (y ∷ ys) x (inr m) = inr (mem-map f ys x m)

pub map-mem : {A B : Type 0} (f : A → B) (xs : List A) (y : B) → Mem y (map f xs) → (x : A) × Mem x xs × (f x ≡ y)
map-mem f [] y m = absurd m
map-mem f (x ∷ xs) y (inl e) = (x, inl refl, e)
map-mem f (x ∷ xs) y (inr m) = let r = map-mem f xs y m in (r.0, inr r.1, r.2)

pub mem-flat_map : {A B : Type 0} (g : A → List B) (xs : List A) (x : A) (y : B) → Mem x xs → Mem y (g x) → Mem y (flat_map g xs)
mem-flat_map g [] x y m n = absurd m
mem-flat_map g (z ∷ zs) x y (inl e) n = mem-append (g z) (flat_map g zs) y (subst (λ x. Mem y (g x)) (sym e) n)
mem-flat_map g (z ∷ zs) x y (inr m) n = mem-behind (g z) (flat_map g zs) y (mem-flat_map g zs x y m n)

pub mem-filter : {A : Type 0} (test : A → Bool) (xs : List A) (y : A) → Mem y xs → test y ≡ true → Mem y (filter test xs)
mem-filter test [] y m e = m
mem-filter test (x ∷ xs) y (inl same) e = go (test x) (subst (λ z. test z ≡ true) (sym same) e)
  where
    go : (b : Bool) → b ≡ true → Mem y (if b then x ∷ filter test xs else filter test xs)
    go true t = inl same
    go false t = absurd cc
mem-filter test (x ∷ xs) y (inr m) e = go (test x) (mem-filter test xs y m e)
  where
    go : (b : Bool) → Mem y (filter test xs) → Mem y (if b then x ∷ filter test xs else filter test xs)
    go true m = inr m
    go false m = m

pub filter-mem : {A : Type 0} (test : A → Bool) (xs : List A) (y : A) → Mem y (filter test xs) → Mem y xs × (test y ≡ true)
filter-mem test [] y m = absurd m
filter-mem test (x ∷ xs) y m = go (test x) refl m (filter-mem test xs y)
  where
    go : (b : Bool) → test x ≡ b → Mem y (if b then x ∷ filter test xs else filter test xs)
        → (Mem y (filter test xs) → Mem y xs × (test y ≡ true)) → Mem y (x ∷ xs) × (test y ≡ true)
    go true t (inl same) rest = (inl same, subst (λ z. test z ≡ true) same t)
    go true t (inr m) rest = let r = rest m in (inr r.0, r.1)
    go false t m rest = let r = rest m in (inr r.0, r.1)

pub filter_map-mem : {A B : Type 0} (h : A → Option B) (xs : List A) (b : B) → Mem b (filter_map h xs) → (a : A) × Mem a xs × (h a ≡ Some b)
filter_map-mem h [] b m = absurd m
filter_map-mem {A} {B} h (x ∷ xs) b m = go (h x) refl m (filter_map-mem h xs b)
  where
    go : (o : Option B) → h x ≡ o → Mem b (cons_option o (filter_map h xs))
        → (Mem b (filter_map h xs) → (a : A) × Mem a xs × (h a ≡ Some b)) → (a : A) × Mem a (x ∷ xs) × (h a ≡ Some b)
    go None t m rest = let r = rest m in (r.0, inr r.1, r.2)
    go (Some c) t (inl same) rest = (x, inl refl, cc)
    go (Some c) t (inr m) rest = let r = rest m in (r.0, inr r.1, r.2)

pub mem-filter_map : {A B : Type 0} (h : A → Option B) (xs : List A) (a : A) (b : B) → Mem a xs → h a ≡ Some b → Mem b (filter_map h xs)
mem-filter_map h [] a b m e = m
mem-filter_map {A} {B} h (x ∷ xs) a b (inl same) e = go (h x) (subst (λ z. h z ≡ Some b) (sym same) e)
  where
    go : (o : Option B) → o ≡ Some b → Mem b (cons_option o (filter_map h xs))
    go None t = absurd cc
    go (Some c) t = inl cc
mem-filter_map {A} {B} h (x ∷ xs) a b (inr m) e = go (h x) (mem-filter_map h xs a b m e)
  where
    go : (o : Option B) → Mem b (filter_map h xs) → Mem b (cons_option o (filter_map h xs))
    go None m = m
    go (Some c) m = inr m

pub find-is : {A : Type 0} (test : A → Bool) (xs : List A) (y : A) → find test xs ≡ Some y → Mem y xs × (test y ≡ true)
find-is test [] y e = absurd cc
find-is test (x ∷ xs) y e = go (test x) refl e (find-is test xs y)
  where
    go : (b : Bool) → test x ≡ b → (if b then Some x else find test xs) ≡ Some y → (find test xs ≡ Some y → Mem y xs × (test y ≡ true))
        → Mem y (x ∷ xs) × (test y ≡ true)
    go true t e rest = let is : x ≡ y = cc in (inl is, subst (λ z. test z ≡ true) is t)
    go false t e rest = let r = rest e in (inr r.0, r.1)

pub mem-find : {A : Type 0} (test : A → Bool) (xs : List A) (y : A) → Mem y xs → test y ≡ true → (z : A) × (find test xs ≡ Some z)
mem-find test [] y m t = absurd m
mem-find {A} test (x ∷ xs) y m t = go (test x) refl m (λ m'. mem-find test xs y m' t)
  where
    go : (b : Bool) → test x ≡ b → (x ≡ y) ⊎ Mem y xs → (Mem y xs → (z : A) × (find test xs ≡ Some z))
        → (z : A) × ((if b then Some x else find test xs) ≡ Some z)
    go true e m rest = (x, refl)
    go false e (inl is) rest = absurd (let no' : test x ≡ true = subst (λ z. test z ≡ true) (sym is) t in cc)
    go false e (inr m) rest = rest m

pub put-mem : {A : Type 0} (key : A → List ℕ) (a : A) (xs : List A) (y : A) → Mem y xs → Mem y (put key a xs)
put-mem key a [] y m = absurd m
put-mem key a (x ∷ xs) y (inl e) = go (numbers_below (key a) (key x))
  where
    go : (b : Bool) → Mem y (if b then a ∷ x ∷ xs else x ∷ put key a xs)
    go true = inr (inl e)
    go false = inl e
put-mem key a (x ∷ xs) y (inr m) = go (numbers_below (key a) (key x)) (put-mem key a xs y m)
  where
    go : (b : Bool) → Mem y (put key a xs) → Mem y (if b then a ∷ x ∷ xs else x ∷ put key a xs)
    go true later = inr (inr m)
    go false later = inr later
