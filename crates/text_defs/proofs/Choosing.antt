-- What a step that answered began with.
use Rattle.std.proofs.Common.{◌≡◌, ◌⊎◌, inl, inr, Bool, true, false, List, [], ◌∷◌, Option, Some, None, refl}
use Rattle.std.specs.Prelude.{if◌then◌else◌, option_map, option_and_then}
use Rattle.std.specs.Option.{option_flatten, option_or}
use Rattle.byte_defs.specs.Choices.{first_that_holds}

pub if_some : {A : Type 0} (b : Bool) (o : Option A) (a : A) → (if b then o else None) ≡ Some a → (b ≡ true) × (o ≡ Some a)
if_some true o a e = (refl, e)
if_some false o a e = absurd cc

-- where the test stands in the way
pub unless_some : {A : Type 0} (b : Bool) (o : Option A) (a : A) → (if b then None else o) ≡ Some a → (b ≡ false) × (o ≡ Some a)
unless_some true o a e = absurd cc
unless_some false o a e = (refl, e)

abbrev some : {A : Type 0} → A → Option A
some a = Some a

pub some_is : {A : Type 0} (a b : A) → some a ≡ some b → a ≡ b
some_is a b e = cc

pub none_some : {A P : Type 0} (a : A) → None ≡ some a → P
none_some a e = absurd cc

pub or_some : {A : Type 0} (o p : Option A) (a : A) → option_or o p ≡ Some a → (o ≡ Some a) ⊎ (p ≡ Some a)
or_some None p a e = inr e
or_some (Some b) p a e = inl e

pub map_some : {A B : Type 0} (f : A → B) (o : Option A) (b : B) → option_map f o ≡ Some b → (a : A) × (o ≡ Some a) × (f a ≡ b)
map_some f None b e = absurd cc
map_some f (Some a) b e = (a, refl, some_is (f a) b e)

pub then_some : {A B : Type 0} (f : A → Option B) (o : Option A) (b : B) → option_and_then f o ≡ Some b
    → (a : A) × (o ≡ Some a) × (f a ≡ Some b)
then_some f None b e = absurd cc
then_some f (Some a) b e = (a, refl, e)

-- each row that may be taken shows it
abbrev pub EachRow : {A : Type 0} → Type 0 → A → List (Bool × Option A) → Type 0
EachRow P a [] = Unit {0}
EachRow P a (row ∷ rows) = (row.0 ≡ true → row.1 ≡ Some a → P) × EachRow P a rows

pub by_row : {A : Type 0} (P : Type 0) (a : A) (rows : List (Bool × Option A)) → option_flatten (first_that_holds rows) ≡ Some a
    → EachRow P a rows → P
by_row P a [] e each = absurd cc
by_row P a ((true, o) ∷ rows) e each = each.0 refl e
by_row P a ((false, o) ∷ rows) e each = by_row P a rows e each.1
