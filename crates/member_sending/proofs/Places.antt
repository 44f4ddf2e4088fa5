-- Places of a list, one more behind the others.
use Rattle.std.proofs.Common.{◌≡◌, ℕ, suc, zero, ◌+◌, List, [], ◌∷◌, ◌++◌, map, drop, Option, Some, None, slice_get, Bool, true, false, refl, sym, ap, ◌∙◌, append_assoc, add-one}
use Rattle.std.specs.Prelude.{if◌then◌else◌, filter}
use Rattle.std.specs.Option.{option_map}
use Rattle.std.specs.List.{cons_option}
use Rattle.std.proofs.lemmas.List.{append-nil}
use Rattle.pool_laws.proofs.Tests.{some-same, none-some}
use Rattle.sent_claims.proofs.Walks.{get-map}
use Rattle.sent_claims.specs.Beside.{chosen}

pub chosen-more : {A : Type 0} (xs : List A) (ps : List ℕ) (p : ℕ) → chosen xs (ps ++ p ∷ []) ≡ chosen xs ps ++ chosen xs (p ∷ [])
chosen-more xs [] p = refl
chosen-more xs (q ∷ qs) p = ap (cons_option (slice_get xs q)) (chosen-more xs qs p) ∙ go (slice_get xs q)
  where
    go : (o : Option _) → cons_option o (chosen xs qs ++ chosen xs (p ∷ [])) ≡ cons_option o (chosen xs qs) ++ chosen xs (p ∷ [])
    go None = refl
    go (Some x) = refl

-- the list from a place on begins with what stands there, where something does
pub drop-chosen : {A : Type 0} (xs : List A) (k : ℕ) → drop k xs ≡ chosen xs (k ∷ []) ++ drop (suc k) xs
drop-chosen [] zero = refl
drop-chosen [] (suc k) = refl
drop-chosen (x ∷ xs) zero = refl
drop-chosen (x ∷ xs) (suc k) = drop-chosen xs k

pub filter-append : {A : Type 0} (t : A → Bool) (xs ys : List A) → filter t (xs ++ ys) ≡ filter t xs ++ filter t ys
filter-append t [] ys = refl
filter-append t (x ∷ xs) ys = go (t x) (filter-append t xs ys)
  where
    go : (b : Bool) → filter t (xs ++ ys) ≡ filter t xs ++ filter t ys
        → (if b then x ∷ filter t (xs ++ ys) else filter t (xs ++ ys)) ≡ (if b then x ∷ filter t xs else filter t xs) ++ filter t ys
    go true more = ap (λ zs. x ∷ zs) more
    go false more = more

-- these, and those that are left, are the whole
pub kept-more : {A : Type 0} (t : A → Bool) (xs now new whole : List A) (k : ℕ) → now ++ filter t (drop k xs) ≡ whole
    → new ≡ now ++ filter t (chosen xs (k ∷ [])) → new ++ filter t (drop (k + 1) xs) ≡ whole
kept-more t xs now new whole k way made =
    ap (λ zs. zs ++ filter t (drop (k + 1) xs)) made ∙ append_assoc now (filter t (chosen xs (k ∷ []))) (filter t (drop (k + 1) xs))
    ∙ ap (λ zs. now ++ zs) (ap (λ n. filter t (chosen xs (k ∷ [])) ++ filter t (drop n xs))
    (add-one k) ∙ sym (filter-append t (chosen xs (k ∷ [])) (drop (suc k) xs)) ∙ ap (filter t) (sym (drop-chosen xs k)))
    ∙ way

pub last-more : {A : Type 0} (xs : List A) (ps : List ℕ) (whole : List A) (k : ℕ) → chosen xs ps ++ drop k xs ≡ whole
    → chosen xs (ps ++ k ∷ []) ++ drop (k + 1) xs ≡ whole
last-more xs ps whole k way =
    ap (λ zs. zs ++ drop (k + 1) xs) (chosen-more xs ps k) ∙ append_assoc (chosen xs ps) (chosen xs (k ∷ [])) (drop (k + 1) xs)
    ∙ ap (λ zs. chosen xs ps ++ zs) (ap (λ n. chosen xs (k ∷ []) ++ drop n xs) (add-one k) ∙ sym (drop-chosen xs k)) ∙ way

-- ---- one place more, where its element passes the test

module _ {A : Type 0} (t : A → Bool) (xs : List A) (ps : List ℕ) (p : ℕ) where
  tested : (o : Option A) → slice_get xs p ≡ o → filter t (cons_option o []) ≡ filter t (chosen xs (p ∷ []))
  tested o e = ap (λ (o : Option A). filter t (cons_option o [])) (sym e)

  pub put-none : slice_get xs p ≡ None → chosen xs ps ≡ chosen xs ps ++ filter t (chosen xs (p ∷ []))
  put-none e = sym (append-nil (chosen xs ps)) ∙ ap (λ zs. chosen xs ps ++ zs) (tested None e)

  pub put-skip : (x : A) → slice_get xs p ≡ Some x → t x ≡ false → chosen xs ps ≡ chosen xs ps ++ filter t (chosen xs (p ∷ []))
  put-skip x e no' = sym (append-nil (chosen xs ps)) ∙ ap (λ zs. chosen xs ps ++ zs)
      (ap (λ (b : Bool). if b then x ∷ [] else []) (sym no') ∙ tested (Some x) e)

  pub put-keep : (x : A) → slice_get xs p ≡ Some x → t x ≡ true → chosen xs (ps ++ p ∷ []) ≡ chosen xs ps ++ filter t (chosen xs (p ∷ []))
  put-keep x e yes' = chosen-more xs ps p ∙ ap (λ zs. chosen xs ps ++ zs)
      (ap (λ (o : Option A). cons_option o []) e ∙ ap (λ (b : Bool). if b then x ∷ [] else []) (sym yes') ∙ tested (Some x) e)

-- what is made of the element there
pub made-of : {A B : Type 0} (f : A → B) (xs : List A) (n : ℕ) (x : A) (y : B) → slice_get xs n ≡ Some x → slice_get (map f xs) n ≡ Some y
    → f x ≡ y
made-of f xs n x y e is = some-same (f x) y (sym (get-map f xs n ∙ ap (option_map f) e) ∙ is)

pub made-none : {A B : Type 0} (f : A → B) (xs : List A) (n : ℕ) (y : B) → slice_get xs n ≡ None → slice_get (map f xs) n ≡ Some y → ⊥
made-none f xs n y e is = none-some (get-map f xs n ∙ ap (option_map f) e) is
