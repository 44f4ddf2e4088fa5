-- The longest of lists, one list after the other.
use Rattle.std.proofs.Common.{◌≡◌, ℕ, ◌+◌, ◌<◌, ◌≤◌, List, [], ◌∷◌, ◌++◌, map, take, length, get_or, Bool, true, false, refl, sym, ap, ◌∙◌, arith}
use Rattle.std.specs.Prelude.{if◌then◌else◌, nat_lt}
use Rattle.std.proofs.lemmas.Bool.{ltb-true, ltb-false, lt-ltb}
use Rattle.std.proofs.lemmas.List.{length-map, map-append, take_more}
use Rattle.group_defs.specs.Accounts as reported
use Rattle.group_defs.specs.Accounts.{longest, group_of, messages_in, delivered_in}
use Rattle.group_defs.specs.Process.{without_places, letter_of}
use Rattle.accounts.specs.declared.account.Account.{Account}
use Rattle.accounts.specs.Views.{account}

-- the longer one, and of two that are equally long the first
abbrev pub longer : {A : Type 0} → List A → List A → List A
longer first other = if nat_lt (length first) (length other) then other else first

not-less : (m n : ℕ) → n ≤ m → nat_lt m n ≡ false
not-less m n le = go (nat_lt m n) refl
  where
    go : (b : Bool) → nat_lt m n ≡ b → nat_lt m n ≡ false
    go true e = absurd (let lt = ltb-true m n e in omega (arith, lt, le))
    go false e = e

-- of three, it does not matter which two are compared first
longer-assoc : {A : Type 0} (xs ys zs : List A) → longer xs (longer ys zs) ≡ longer (longer xs ys) zs
longer-assoc xs ys zs = go (nat_lt (length xs) (length ys)) refl (nat_lt (length ys) (length zs)) refl
  where
    go : (a : Bool) → nat_lt (length xs) (length ys) ≡ a → (b : Bool) → nat_lt (length ys) (length zs) ≡ b
        → longer xs (longer ys zs) ≡ longer (longer xs ys) zs
    go true e true f =
        let less = ltb-true (length xs) (length ys) e in
        let more = ltb-true (length ys) (length zs) f in
        let all : nat_lt (length xs) (length zs) ≡ true = lt-ltb (length xs) (length zs) (omega (arith, less, more)) in
        rw (e, f, all) refl
    go true e false f = rw (f, e, f) refl
    go false e true f = rw (e, f) refl
    go false e false f =
        let less = ltb-false (length xs) (length ys) e in
        let more = ltb-false (length ys) (length zs) f in
        let all : nat_lt (length xs) (length zs) ≡ false = not-less (length xs) (length zs) (omega (arith, less, more)) in
        rw (f, e, all) refl

longer-none : {A : Type 0} (xs : List A) → longer xs [] ≡ longer [] xs
longer-none [] = refl
longer-none (x ∷ xs) =
    go (nat_lt (length (x ∷ xs)) 0) (nat_lt 0 (length (x ∷ xs))) (not-less (length (x ∷ xs)) 0 (omega arith))
    (lt-ltb 0 (length (x ∷ xs)) (omega arith))
  where
    go : (a b : Bool) → a ≡ false → b ≡ true → (if a then [] else x ∷ xs) ≡ (if b then x ∷ xs else [])
    go false true e f = refl
    go false false e f = absurd cc
    go true b e f = absurd cc

-- one list more
pub longest-more : {A : Type 0} (xss : List (List A)) (xs : List A) → longest (xss ++ xs ∷ []) ≡ longer (longest xss) xs
longest-more [] xs = longer-none xs
longest-more (ys ∷ more) xs = ap (longer ys) (longest-more more xs) ∙ longer-assoc ys (longest more) xs

pub longer-map : {A B : Type 0} (f : A → B) (xs ys : List A) → longer (map f xs) (map f ys) ≡ map f (longer xs ys)
longer-map f xs ys = (λ i. if nat_lt (length-map xs f i) (length-map ys f i) then map f ys else map f xs) ∙ go
    (nat_lt (length xs) (length ys))
  where
    go : (b : Bool) → (if b then map f ys else map f xs) ≡ map f (if b then ys else xs)
    go true = refl
    go false = refl

-- what is made of the longest is the longest of what is made
pub longest-map : {X A B : Type 0} (f : A → B) (g : X → List A) (xs : List X)
    → longest (map (λ x. map f (g x)) xs) ≡ map f (longest (map g xs))
longest-map f g [] = refl
longest-map f g (x ∷ xs) = ap (longer (map f (g x))) (longest-map f g xs) ∙ longer-map f (g x) (longest (map g xs))

map-map : {X Y Z : Type 0} (f : Y → Z) (g : X → Y) (xs : List X) → map f (map g xs) ≡ map (λ x. f (g x)) xs
map-map f g [] = refl
map-map f g (x ∷ xs) = ap (λ ys. f (g x) ∷ ys) (map-map f g xs)

-- ---- of what a loop has seen

pub longest-next : {X A : Type 0} (g : X → List A) (xs : List X) (i : ℕ) (x : X) (before now : List A) → i < length xs → x ≡ get_or xs i x
    → before ≡ longest (map g (take i xs)) → now ≡ longer before (g x) → now ≡ longest (map g (take (i + 1) xs))
longest-next {X} g xs i x before now lt at so_far is =
    is
    ∙ ap (λ ys. longer ys (g x)) so_far
    ∙ sym (longest-more (map g (take i xs)) (g x))
    ∙ ap longest (sym (map-append g (take i xs) (x ∷ [])))
    ∙ ap (λ (ys : List X). longest (map g ys)) (ap (λ (y : X). take i xs ++ y ∷ []) at ∙ sym (take_more xs i x lt))

-- ---- the group

pub views-of_group : (accounts : List Account) → (group_of (map account accounts)).views ≡ longest (map (λ a. a.views.items) accounts)
views-of_group accounts = ap longest (map-map (λ (a : reported.Account). a.views) account accounts)

pub sequence-of_group : (accounts : List Account) (x : ℕ)
    → (group_of (map account accounts)).sequence x ≡ without_places (longest (map (λ a. delivered_in (account a) x) accounts))
sequence-of_group accounts x =
    ap longest (map-map (λ (a : reported.Account). messages_in a x) account accounts) ∙ longest-map letter_of
    (λ (a : Account). delivered_in (account a) x) accounts
