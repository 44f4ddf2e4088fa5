-- A set of bytes with one more among them.
use Rattle.std.proofs.Common.{◌≡◌, ℕ, Bool, true, false, cond, ◌||◌, List, [], ◌∷◌, ◌++◌, refl, sym, ap, ◌∙◌}
use Rattle.std.specs.List.{list_any}
use Rattle.std.specs.Str.{bytes_eq}
use Rattle.std.proofs.lemmas.List.Folds.{list_any-append}
use Rattle.std.proofs.lemmas.Slice.Eq.{bytes_eq-Decides}
use Rattle.indexmap.specs.IndexSet.{insert_key}

-- one of these has these bytes
abbrev pub among : List ℕ → List (List ℕ) → Bool
among x ks = list_any (bytes_eq x) ks

or_false : (a : Bool) → (a || false) ≡ a
or_false true = refl
or_false false = refl

or_true : (a : Bool) → (a || true) ≡ true
or_true true = refl
or_true false = refl

-- they are among these anyhow
there_already : (x : List ℕ) (ks : List (List ℕ)) (k : List ℕ) → list_any (bytes_eq k) ks ≡ true → (b : Bool) → bytes_eq x k ≡ b
    → among x ks ≡ (among x ks || b)
there_already x ks k is true e =
    let same : x ≡ k = (bytes_eq-Decides x k).0 e in
    let there : among x ks ≡ true = ap (λ y. among y ks) same ∙ is in
    there ∙ sym (or_true (among x ks))
there_already x ks k is false e = sym (or_false (among x ks))

pub among_inserted : (x : List ℕ) (ks : List (List ℕ)) (k : List ℕ)
    → among x (insert_key bytes_eq ks k) ≡ (among x ks || bytes_eq x k)
among_inserted x ks k = go (list_any (bytes_eq k) ks) refl
  where
    go : (b : Bool) → list_any (bytes_eq k) ks ≡ b → among x (cond b ks (ks ++ k ∷ [])) ≡ (among x ks || bytes_eq x k)
    go true is = there_already x ks k is (bytes_eq x k) refl
    go false is = list_any-append (bytes_eq x) ks (k ∷ []) ∙ ap (λ b. among x ks || b) (or_false (bytes_eq x k))
