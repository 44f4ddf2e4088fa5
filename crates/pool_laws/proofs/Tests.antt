-- What a test says that holds.
use Rattle.std.proofs.Common.{◌≡◌, ◌⊎◌, inl, inr, Option, Some, None, Bool, true, false, refl}
use Rattle.std.specs.Prelude.{◌&&◌, ◌||◌, not, is_none, option_map, option_and_then}
use Rattle.std.specs.Option.{option_or}
use Rattle.group_defs.specs.Below.{is_yes, is_some_and}

pub and-first : (a b : Bool) → (a && b) ≡ true → a ≡ true
and-first true b e = refl
and-first false b e = e

pub and-second : (a b : Bool) → (a && b) ≡ true → b ≡ true
and-second true b e = e
and-second false b e = absurd cc

pub and-four : (a b c d : Bool) → (a && b && c && d) ≡ true → (a ≡ true) × (b ≡ true) × (c ≡ true) × (d ≡ true)
and-four true true true d e = (refl, refl, refl, e)
and-four true true false d e = absurd cc
and-four true false c d e = absurd cc
and-four false b c d e = absurd cc

pub both-true : (a b : Bool) → a ≡ true → b ≡ true → (a && b) ≡ true
both-true true b e f = f
both-true false b e f = absurd cc

pub or-cases : (a b : Bool) → (a || b) ≡ true → (a ≡ true) ⊎ (b ≡ true)
or-cases true b e = inl refl
or-cases false b e = inr e

pub neither : (a b : Bool) → (a || b) ≡ false → (a ≡ false) × (b ≡ false)
neither true b e = absurd cc
neither false b e = (refl, e)

pub not-both : (b : Bool) → b ≡ true → not b ≡ true → ⊥
not-both true e f = cc
not-both false e f = cc

pub not-false : (b : Bool) → not b ≡ false → b ≡ true
not-false true e = refl
not-false false e = absurd cc

pub implied : (b c : Bool) → (not b || c) ≡ true → b ≡ true → c ≡ true
implied true c e f = e
implied false c e f = absurd cc

pub implies : (b c : Bool) → (b ≡ true → c ≡ true) → (not b || c) ≡ true
implies true c h = h refl
implies false c h = refl

-- ---- decided equality

pub yes-is : {A : Type 0} (d : Dec A) → is_yes d ≡ true → A
yes-is (yes a) e = a
yes-is (no n) e = absurd cc

pub is-yes : {A : Type 0} (d : Dec A) → A → is_yes d ≡ true
is-yes (yes a) e = refl
is-yes (no n) e = absurd (n e)

-- ---- options

pub some-and : {A : Type 0} (o : Option A) (test : A → Bool) → is_some_and o test ≡ true → (a : A) × (o ≡ Some a) × (test a ≡ true)
some-and None test e = absurd cc
some-and (Some a) test e = (a, refl, e)

pub map-some : {A B : Type 0} (f : A → B) (o : Option A) (b : B) → option_map f o ≡ Some b → (a : A) × (o ≡ Some a) × (f a ≡ b)
map-some f None b e = absurd cc
map-some f (Some a) b e = (a, refl, cc)

pub then-some : {A B : Type 0} (f : A → Option B) (o : Option A) (b : B) → option_and_then f o ≡ Some b
    → (a : A) × (o ≡ Some a) × (f a ≡ Some b)
then-some f None b e = absurd cc
then-some f (Some a) b e = (a, refl, e)

pub some-same : {A : Type 0} (x y : A) → Some x ≡ Some y → x ≡ y
some-same x y e = cc

pub none-is : {A : Type 0} (o : Option A) → is_none o ≡ true → o ≡ None
none-is None e = refl
none-is (Some a) e = absurd cc

pub option_or-is : {A : Type 0} (o p : Option A) (x : A) → option_or o p ≡ Some x → (o ≡ Some x) ⊎ (p ≡ Some x)
option_or-is None p x e = inr e
option_or-is (Some y) p x e = inl e

pub some-is : {A : Type 0} (x y : A) (o : Option A) → o ≡ Some x → o ≡ Some y → x ≡ y
some-is x y o e e' = cc

pub none-some : {A : Type 0} {o : Option A} {x : A} → o ≡ None → o ≡ Some x → ⊥
none-some n e = cc
