-- The statement that a kind gives next is due, and none of its kind that is due stands before it.
use Rattle.std.proofs.Common.{◌≡◌, inl, inr, ℕ, ◌<◌, ◌≤◌, List, [], ◌∷◌, Some, Bool, true, false, refl, subst, arith}
use Rattle.std.specs.Prelude.{if◌then◌else◌, filter, ◌&&◌, ◌||◌, ◌==◌, is_some, nat_lt}
use Rattle.std.proofs.lemmas.Bool.{ltb-true, ltb-false, eqb-true, eq-eqb, le-ltb}
use Rattle.group_defs.specs.Below.{numbers_below, least_from, least, Statement}
use Rattle.group_defs.specs.Process.{Kind, Setting, Process}
use Rattle.group_defs.specs.Due.{may_sign, least_due, due_numbers, kind_of, offers, LeastIsDue, SomeIsLeast}
use Rattle.pool_laws.proofs.Members.{Contains-mem, Mem, filter-mem, mem-filter}
use Rattle.rule_laws.proofs.Offered.{each_due_is_offered}
use Rattle.pool_laws.proofs.Tests.{or-cases, neither}

-- ---- the least statement that is due may be signed

module _ {A : Type 0} (key : A → List ℕ) where
  least_from-mem : (a : A) (xs : List A) → Mem (least_from key a xs) (a ∷ xs)
  least_from-mem a [] = inl refl
  least_from-mem a (x ∷ xs) = go (numbers_below (key x) (key a)) (λ b. least_from-mem b xs)
    where
      go : (b : Bool) → ((c : A) → Mem (least_from key c xs) (c ∷ xs)) → Mem (least_from key (if b then x else a) xs) (a ∷ x ∷ xs)
      go true rest = inr (rest x)
      go false rest = elim (rest a) [ inl e ↦ inl e | inr m ↦ inr (inr m) ]

  pub least-mem : (xs : List A) (y : A) → least key xs ≡ Some y → Mem y xs
  least-mem [] y e = absurd cc
  least-mem (x ∷ xs) y e = let is : least_from key x xs ≡ y = cc in subst (λ y. Mem y (x ∷ xs)) is (least_from-mem x xs)

pub least_due-passes : (s : Setting) (p : Process) (kind : Kind) (st : Statement) → least_due s p kind ≡ Some st
    → Mem st (filter (may_sign s p) (offers kind s p))
unfolding least_due
least_due-passes s p kind st e = least-mem (due_numbers p.pool.view) (filter (may_sign s p) (offers kind s p)) st e

pub least_due-may : (s : Setting) (p : Process) (kind : Kind) (st : Statement) → least_due s p kind ≡ Some st → may_sign s p st ≡ true
least_due-may s p kind st e = (filter-mem (may_sign s p) (offers kind s p) st (least_due-passes s p kind st e)).1

-- ---- none that is due stands before it

no : (a b : Bool) → a ≡ false → b ≡ false → (a || b) ≡ false
no true b e f = absurd cc
no false b e f = f

second : (a b : Bool) → a ≡ true → (a && b) ≡ false → b ≡ false
second true b e f = f
second false b e f = absurd cc

not-and : (a b : Bool) → (a ≡ true → b ≡ false) → (a && b) ≡ false
not-and true b h = h refl
not-and false b h = refl

pub below-trans : (a b c : List ℕ) → numbers_below a b ≡ false → numbers_below b c ≡ false → numbers_below a c ≡ false
below-trans [] [] c e f = f
below-trans [] (m ∷ ms) c e f = absurd cc
below-trans (l ∷ ls) b [] e f = refl
below-trans (l ∷ ls) [] (n ∷ ns) e f = absurd cc
below-trans (l ∷ ls) (m ∷ ms) (n ∷ ns) e f =
    let one = neither (nat_lt l m) ((l == m) && numbers_below ls ms) e in
    let two = neither (nat_lt m n) ((m == n) && numbers_below ms ns) f in
    let ml : m ≤ l = ltb-false l m one.0 in
    let nm : n ≤ m = ltb-false m n two.0 in
    no (nat_lt l n) ((l == n) && numbers_below ls ns) (le-ltb l n (omega (arith, ml, nm)))
    (not-and (l == n) (numbers_below ls ns) (λ same. let is : l ≡ n = eqb-true l n same in
    below-trans ls ms ns
    (second (l == m) (numbers_below ls ms) (eq-eqb l m (omega (arith, ml, nm, is))) one.1)
    (second (m == n) (numbers_below ms ns) (eq-eqb m n (omega (arith, ml, nm, is))) two.1)))

and-parts : (a b : Bool) → (a && b) ≡ true → (a ≡ true) × (b ≡ true)
and-parts true b e = (refl, e)
and-parts false b e = absurd cc

pub below-asym : (a b : List ℕ) → numbers_below a b ≡ true → numbers_below b a ≡ false
below-asym [] [] e = absurd cc
below-asym [] (n ∷ ns) e = refl
below-asym (m ∷ ms) [] e = absurd cc
below-asym (m ∷ ms) (n ∷ ns) e = elim (or-cases (nat_lt m n) ((m == n) && numbers_below ms ns) e) [
  | inl lt ↦ (let mn : m < n = ltb-true m n lt in no (nat_lt n m) ((n == m) && numbers_below ns ms) (le-ltb n m (omega (arith, mn)))
      (not-and (n == m) (numbers_below ns ms) (λ same. absurd (let is : n ≡ m = eqb-true n m same in omega (arith, mn, is)))))
  | inr rest ↦ (let parts = and-parts (m == n) (numbers_below ms ns) rest in let is : m ≡ n = eqb-true m n parts.0 in
      no (nat_lt n m) ((n == m) && numbers_below ns ms) (le-ltb n m (omega (arith, is)))
      (not-and (n == m) (numbers_below ns ms) (λ same. below-asym ms ns parts.1)))
]

module _ {A : Type 0} (key : A → List ℕ) where
  NotBelow : A → A → Type 0
  NotBelow z y = numbers_below (key z) (key y) ≡ false

  chosen : (x a y : A) → NotBelow (if numbers_below (key x) (key a) then x else a) y → NotBelow x y × NotBelow a y
  unfolding NotBelow
  chosen x a y = go (numbers_below (key x) (key a)) refl
    where
      go : (b : Bool) → numbers_below (key x) (key a) ≡ b → numbers_below (key (if b then x else a)) (key y) ≡ false
          → (numbers_below (key x) (key y) ≡ false) × (numbers_below (key a) (key y) ≡ false)
      go true e h = (h, below-trans (key a) (key x) (key y) (below-asym (key x) (key a) e) h)
      go false e h = (below-trans (key x) (key a) (key y) e h, h)

  start-least : (xs : List A) (a : A) → NotBelow a (least_from key a xs)
  unfolding NotBelow
  start-least [] a = self (key a)
    where
      self : (ns : List ℕ) → numbers_below ns ns ≡ false
      self [] = refl
      self (n ∷ ns) = no (nat_lt n n) ((n == n) && numbers_below ns ns) (le-ltb n n (omega arith))
          (not-and (n == n) (numbers_below ns ns) (λ same. self ns))
  start-least (x ∷ xs) a = unfold NotBelow in (chosen x a _ (start-least xs _)).1

  rest-least : (xs : List A) (a z : A) → Mem z xs → NotBelow z (least_from key a xs)
  rest-least [] a z m = absurd m
  rest-least (x ∷ xs) a z (inl e) = subst (λ z. NotBelow z (least_from key a (x ∷ xs))) e (chosen x a _ (start-least xs _)).0
  rest-least (x ∷ xs) a z (inr m) = rest-least xs _ z m

  pub least-not-below : (xs : List A) (y z : A) → least key xs ≡ Some y → Mem z xs → numbers_below (key z) (key y) ≡ false
  unfolding NotBelow
  least-not-below [] y z e m = absurd m
  least-not-below (x ∷ xs) y z e (inl same) = let is : least_from key x xs
      ≡ y = cc in subst (λ y. NotBelow z y) is (subst (λ z. NotBelow z (least_from key x xs)) same (start-least xs x))
  least-not-below (x ∷ xs) y z e (inr m) = let is : least_from key x xs ≡ y = cc in subst (λ y. NotBelow z y) is (rest-least xs x z m)

some-least : {A : Type 0} (key : A → List ℕ) (xs : List A) (x : A) → Mem x xs → is_some (least key xs) ≡ true
some-least key [] x m = absurd m
some-least key (y ∷ ys) x m = refl

pub some_is_least : SomeIsLeast
unfolding least_due
some_is_least s p st may = some-least (due_numbers p.pool.view) (filter (may_sign s p) (offers (kind_of st) s p)) st
    (mem-filter (may_sign s p) (offers (kind_of st) s p) st
    (Contains-mem (offers (kind_of st) s p) st (each_due_is_offered s p st may)) may)

pub least_is_due : LeastIsDue
unfolding least_due
least_is_due s p st e = (
  least_due-may s p (kind_of st) st e,
  λ other offered may. least-not-below (due_numbers p.pool.view) (filter (may_sign s p) (offers (kind_of st) s p)) st other e
      (mem-filter (may_sign s p) (offers (kind_of st) s p) other (Contains-mem (offers (kind_of st) s p) other offered) may),
)
