-- Ends that are put in their places one after another.
use Rattle.std.proofs.Common.{◌≡◌, ◌⊎◌, slice_index, Bool, true, false, ℕ, ◌<◌, List, [], length, set, slice_index_or, sym, ◌∙◌, inl, inr, arith}
use Rattle.std.proofs.lemmas.List.{get_or-set_same, get_or-set_other}
use Rattle.std.proofs.lemmas.Bool.{cases_eq, cases_lt}

module _ (F : ℕ → List ℕ) where
  pub put_there : (ends : List (List ℕ)) (a : ℕ) (p : List ℕ) → a < length ends → p ≡ F a → slice_index_or (set ends a p) a [] ≡ F a
  put_there ends a p fits e = get_or-set_same ends a p [] fits ∙ e

  pub put_keeps : (ends : List (List ℕ)) (a : ℕ) (p : List ℕ) → a < length ends → p ≡ F a
      → (i : ℕ) → slice_index_or ends i [] ≡ F i → slice_index_or (set ends a p) i [] ≡ F i
  put_keeps ends a p fits e i held = elim (cases_lt i a) [
    | inl lt ↦ get_or-set_other ends a i p [] (omega arith) ∙ held
    | inr ge ↦ elim (cases_lt a i) [
      | inl lt ↦ get_or-set_other ends a i p [] (omega arith) ∙ held
      | inr le ↦
          let same : a ≡ i = omega arith in
          rw (← same) (put_there ends a p fits e)
    ]
  ]

-- what is marked once a mark is set: the place, and what was marked before
pub marked : (done : List Bool) (a i : ℕ) → slice_index_or (set done a true) i false ≡ true → (i ≡ a) ⊎ (slice_index_or done i false ≡ true)
marked done a i e = elim (cases_eq i a) [
  | inl same ↦ inl same
  | inr other ↦ inr (sym (get_or-set_other done a i true false other) ∙ e)
]

-- what holds of all numbers and of the one that is put in
pub set_all : (P : ℕ → Type 0) (xs : List ℕ) (a x n : ℕ) → a < length xs → P x → ((l : ℕ) → l < n → P (slice_index xs l))
    → (l : ℕ) → l < n → P (slice_index (set xs a x) l)
set_all P xs a x n fits here all l low = elim (cases_eq l a) [
  | inl same ↦ rw (same, get_or-set_same xs a x 0 fits) here
  | inr other ↦ rw (get_or-set_other xs a l x 0 other) (all l low)
]
