-- Lists that are read item by item.
use Rattle.std.proofs.Common.{◌≡◌, ◌≢◌, ◌⊎◌, inl, inr, ℕ, ◌+◌, ◌<◌, List, [], ◌∷◌, ◌++◌, length, map, take, drop, get_or, Bor, refl, sym, ap, subst, ◌∙◌, arith}
use Rattle.std.specs.Prelude.{codes}
use Rattle.std.proofs.lemmas.List.{take_more, drop_more, take-append-drop, take_all, map-append}
use Rattle.interop_runs.specs.Questions.{Each, IsList}

module _ {A B : Type 0} (R : A → B → Type 0) where
  pub one_more : (xs : List A) (ys : List B) (a : A) (b : B) → Each R xs ys → R a b → Each R (xs ++ a ∷ []) (ys ++ b ∷ [])
  one_more [] [] a b each r = (r, tt)
  one_more [] (y ∷ ys) a b each r = absurd each
  one_more (x ∷ xs) [] a b each r = absurd each
  one_more (x ∷ xs) (y ∷ ys) a b each r = (each.0, one_more xs ys a b each.1 r)

  pub beside : (before rest : List A) (a : A) (ys : List B) → Each R (before ++ a ∷ rest) ys → (b : B) × R a b
  beside [] rest a [] each = absurd each
  beside [] rest a (y ∷ ys) each = (y, each.0)
  beside (x ∷ before) rest a [] each = absurd each
  beside (x ∷ before) rest a (y ∷ ys) each = beside before rest a ys each.1

-- what stands in the items of a list
abbrev pub reported : List (Bor (List ℕ)) → List (List ℕ)
reported items = map (λ item. item.now) items

module _ (items : List (Bor (List ℕ))) (i : ℕ) (d : Bor (List ℕ)) (within : i < length items) where
  parted : reported items ≡ reported (take i items) ++ (get_or items i d).now ∷ reported (drop (i + 1) items)
  parted = ap reported (sym (take-append-drop i items))
      ∙ map-append (λ (item : Bor (List ℕ)). item.now) (take i items) (drop i items)
      ∙ ap (λ (l : List (Bor (List ℕ))). reported (take i items) ++ reported l) (drop_more items i d within)

  front : reported (take (i + 1) items) ≡ reported (take i items) ++ (get_or items i d).now ∷ []
  front = ap reported (take_more items i d within)
      ∙ map-append (λ (item : Bor (List ℕ)). item.now) (take i items) (get_or items i d ∷ [])

  module _ {B : Type 0} (R : List ℕ → B → Type 0) where
    -- one item more was read
    pub next_read : (ys : List B) (b : B) → Each R (reported (take i items)) ys → R (get_or items i d).now b
        → Each R (reported (take (i + 1) items)) (ys ++ b ∷ [])
    next_read ys b each r = subst (λ (l : List (List ℕ)). Each R l (ys ++ b ∷ [])) (sym front)
        (one_more R (reported (take i items)) ys (get_or items i d).now b each r)

    -- each item has one beside it
    pub item_beside : (ys : List B) → Each R (reported items) ys → (b : B) × R (get_or items i d).now b
    item_beside ys each = beside R (reported (take i items)) (reported (drop (i + 1) items)) (get_or items i d).now ys
        (subst (λ (l : List (List ℕ)). Each R l ys) parted each)

-- no word is two lists
pub list_once : (word : List ℕ) (a b : List (List ℕ)) → IsList word a → IsList word b → a ≡ b
list_once word a b (inl x) (inl y) = x.1 ∙ sym y.1
list_once word a b (inr x) (inr y) = x.1 ∙ sym y.1
list_once word a b (inl x) (inr y) = absurd (y.0 x.0)
list_once word a b (inr x) (inl y) = absurd (x.0 y.0)
