-- A list at a place of it, and ranges.
use Rattle.std.proofs.Common.{◌≡◌, ℕ, zero, suc, ◌+◌, ◌<◌, List, [], ◌∷◌, ◌++◌, map, length, take, drop, get_or, Some, refl, sym, ap, ◌∙◌, arith, slice_get}
use Rattle.std.specs.List.{range_with_len, zip}
use Rattle.std.proofs.lemmas.List.{at_drop_more, map-append, take-append-drop, take_more}
use Rattle.group_defs.specs.Accounts.{neighbours}
use Rattle.group_defs.specs.Process.{letter_of}
use Rattle.member_events.specs.declared.events.Delivered.{Delivered}
use Rattle.accounts.specs.Views.{delivery}
use Rattle.group_questions.specs.Letters.{letters}

pub zip-neighbours : {A : Type 0} (xs : List A) → zip xs (drop 1 xs) ≡ neighbours xs
zip-neighbours [] = refl
zip-neighbours (x ∷ []) = refl
zip-neighbours {A} (x ∷ y ∷ more) = ap (λ (ps : List (A × A)). (x, y) ∷ ps) (zip-neighbours (y ∷ more))

pub split-at : {A : Type 0} (xs : List A) (i : ℕ) (x : A) → i < length xs → x ≡ get_or xs i x → xs ≡ take i xs ++ x ∷ drop (i + 1) xs
split-at {A} xs i x lt is =
    sym (take-append-drop i xs) ∙ at_drop_more (λ ys. take i xs ++ ys) xs i x lt ∙ ap (λ (y : A). take i xs ++ y ∷ drop (i + 1) xs) (sym is)

pub one-more : {A : Type 0} (xs : List A) (i : ℕ) (x : A) → i < length xs → x ≡ get_or xs i x → take (i + 1) xs ≡ take i xs ++ x ∷ []
one-more {A} xs i x lt is = take_more xs i x lt ∙ ap (λ (y : A). take i xs ++ y ∷ []) (sym is)

pub get-behind : {A : Type 0} (xs : List A) (y : A) (ys : List A) → slice_get (xs ++ y ∷ ys) (length xs) ≡ Some y
get-behind [] y ys = refl
get-behind (x ∷ xs) y ys = get-behind xs y ys

pub range-more : (a n : ℕ) → range_with_len a (suc n) ≡ range_with_len a n ++ (a + n) ∷ []
range-more a zero = let same : a ≡ a + zero = omega arith in ap (λ k. k ∷ []) same
range-more a (suc n) =
    let same : (a + 1) + n ≡ a + suc n = omega arith in
    ap (λ ks. a ∷ ks) (range-more (a + 1) n ∙ ap (λ k. range_with_len (a + 1) n ++ k ∷ []) same)

pub range-split : (a m n : ℕ) → range_with_len a (m + n) ≡ range_with_len a m ++ range_with_len (a + m) n
range-split a zero n =
    let none : zero + n ≡ n = omega arith in
    let same : a ≡ a + zero = omega arith in
    ap (range_with_len a) none ∙ ap (λ k. range_with_len k n) same
range-split a (suc m) n =
    let one : suc m + n ≡ suc (m + n) = omega arith in
    let same : (a + 1) + m ≡ a + suc m = omega arith in
    ap (range_with_len a) one
    ∙ ap (λ ks. a ∷ ks) (range-split (a + 1) m n ∙ ap (λ k. range_with_len (a + 1) m ++ range_with_len k n) same)

pub letters-append : (ds es : List Delivered) → letters (ds ++ es) ≡ letters ds ++ letters es
letters-append ds es = ap (map letter_of) (map-append delivery ds es) ∙ map-append letter_of (map delivery ds) (map delivery es)
