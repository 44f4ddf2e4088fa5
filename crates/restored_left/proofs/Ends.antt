-- Lists by their last elements.
use Rattle.std.proofs.Common.{◌≡◌, ℕ, zero, suc, ◌+◌, ◌-◌, ◌≤◌, List, [], ◌∷◌, ◌++◌, length, map, Some, refl, sym, ap, ◌∙◌, subst, arith, inl}
use Rattle.std.specs.Prelude.{slice_get, slice_index_or}
use Rattle.std.specs.List.{AllByRecursion}
use Rattle.std.proofs.lemmas.List.{append_assoc, append_cancel_right, map-append}
use Rattle.message_defs.specs.Limits.{most_places}
use Rattle.group_defs.specs.Process.{Delivered, places_in}
use Rattle.group_defs.specs.Accounts.{IsByPlace}
use Rattle.kept_images.specs.Facts.{AreByPlace}
use Rattle.member_state.specs.Bounds.{AreFew}
use Rattle.pool_laws.proofs.Members.{Mem, All-mem, mem-append, mem-behind, mem-map}
use Rattle.pool_laws.proofs.Places.{index-is, length-snoc, slice_get-last}
use Rattle.pool_laws.proofs.Tests.{some-same}
use Rattle.snapshot_defs.specs.Ranges.{EachFrom}
use Rattle.restored_left.proofs.Lists.{few-of}

-- the last elements of the same list are the same
same-last : {A : Type 0} (xs ys : List A) (a b : A) → xs ++ a ∷ [] ≡ ys ++ b ∷ [] → a ≡ b
same-last {A = A} xs ys a b e =
    let count : suc (length xs) ≡ suc (length ys) = sym (length-snoc xs a) ∙ ap length e ∙ length-snoc ys b in
    sym (index-is (xs ++ a ∷ []) (length xs) a a (slice_get-last xs a (length xs) refl))
    ∙ ap (λ (zs : List A). slice_index_or zs (length xs) a) e
    ∙ index-is (ys ++ b ∷ []) (length xs) a b (slice_get-last ys b (length xs) (omega (arith, count)))

-- and so are those before them
same-front : {A : Type 0} (xs ys : List A) (a b : A) → xs ++ a ∷ [] ≡ ys ++ b ∷ [] → xs ≡ ys
same-front {A = A} xs ys a b e =
    append_cancel_right xs ys (b ∷ []) (ap (λ (x : A). xs ++ x ∷ []) (sym (same-last xs ys a b e)) ∙ e)

-- a list by the element at its end
get-last : {A : Type 0} (front : List A) (n : ℕ) (z : A) → length front ≡ suc n → slice_get front n ≡ Some z
    → (xs : List A) × (front ≡ xs ++ z ∷ [])
get-last [] n z many is = absurd (omega (arith, many))
get-last {A = A} (x ∷ []) zero z many is = ([], ap (λ (y : A). y ∷ []) (some-same x z is))
get-last (x ∷ []) (suc n) z many is = absurd (omega (arith, many))
get-last (x ∷ y ∷ ys) zero z many is = absurd (omega (arith, many))
get-last {A = A} (x ∷ y ∷ ys) (suc n) z many is =
    let rest = get-last (y ∷ ys) n z (omega (arith, many)) is in
    (x ∷ rest.0, ap (λ (zs : List A). x ∷ zs) rest.1)

pub last-of : {A : Type 0} (front : List A) (z : A) → Some z ≡ slice_get front (length front - 1) → (xs : List A) × (front ≡ xs ++ z ∷ [])
last-of [] z is = absurd cc
last-of (x ∷ xs) z is = get-last (x ∷ xs) (length (x ∷ xs) - 1) z (omega arith) (sym is)

-- the last element but one
pub before-last : {A B : Type 0} (f : A → B) (all front : List A) (y z : A) (rest : List B) (d last : B)
    → all ≡ front ++ y ∷ [] → Some z ≡ slice_get front (length front - 1) → map f all ≡ rest ++ d ∷ last ∷ [] → f z ≡ d
before-last {A = A} f all front y z rest d last is at are =
    let front_is = last-of front z at in
    let whole = sym (map-append f front (y ∷ [])) ∙ ap (map f) (sym is) ∙ are ∙ sym (append_assoc rest (d ∷ []) (last ∷ [])) in
    let fronts = same-front (map f front) (rest ++ d ∷ []) (f y) last whole in
    same-last (map f front_is.0) rest (f z) d (sym (map-append f front_is.0 (z ∷ [])) ∙ ap (map f) (sym front_is.1) ∙ fronts)

-- it is one of them
pub before-in : {A B : Type 0} (f : A → B) (all front : List A) (y z : A) → all ≡ front ++ y ∷ []
    → Some z ≡ slice_get front (length front - 1) → Mem (f z) (map f all)
before-in {A = A} f all front y z is at =
    let front_is = last-of front z at in
    let here : Mem z front = subst (λ (es : List A). Mem z es) (sym front_is.1) (mem-behind front_is.0 (z ∷ []) z (inl refl)) in
    mem-map f all z (subst (λ (es : List A). Mem z es) (sym is) (mem-append front (y ∷ []) z here))

-- a list of two elements or more by its end
pub last-two : {A : Type 0} (es : List A) (n : ℕ) (d : A) → length es ≡ n + 2
    → (rest : List A) × (y : A) × (es ≡ rest ++ slice_index_or es n d ∷ y ∷ [])
last-two [] n d e = absurd (omega (arith, e))
last-two (x ∷ []) n d e = absurd (omega (arith, e))
last-two (x ∷ y ∷ []) zero d e = ([], y, refl)
last-two (x ∷ y ∷ z ∷ es) zero d e = absurd (omega (arith, e))
last-two {A = A} (x ∷ y ∷ es) (suc n) d e =
    let shorter = last-two (y ∷ es) n d (omega (arith, e)) in
    (x ∷ shorter.0, shorter.1, ap (λ (zs : List A). x ∷ zs) shorter.2)

-- ---- what was delivered in one of the views

pub few-at : (lists : List (List Delivered)) (ds : List Delivered) → Mem ds lists → AreByPlace lists → AreFew ds
few-at lists ds m placed = few-of ds (All-mem IsByPlace lists ds placed.by_place m)
    (All-mem (λ (es : List Delivered). places_in es ≤ most_places) lists ds placed.few m)

-- so many messages are at most 16,384
pub few-messages : (ds : List Delivered) → AreFew ds → length ds ≤ 16384
few-messages ds few = (let places = few.places in let messages = few.messages in omega (arith, places, messages))

pub each-by : {A : Type 0} (P : A → Type 0) (k : ℕ) (xs : List A) → EachFrom (λ j x. P x) k xs → AllByRecursion P xs
each-by P k [] each = tt
each-by P k (x ∷ xs) each = (each.0, each-by P (k + 1) xs each.1)
