-- A table that is filled one place after another.
use Rattle.std.proofs.Common.{◌≡◌, ℕ, ◌+◌, ◌<◌, List, length, set, slice_index_or, inl, inr, arith}
use Rattle.std.proofs.lemmas.List.{get_or-set_same, get_or-set_other}
use Rattle.std.proofs.lemmas.Bool.{cases_eq}

module _ {A : Type 0} (P : ℕ → A → Type 0) (d : A) where
  pub filled : (xs : List A) (n at : ℕ) (x : A) → at ≡ n → n < length xs → P n x
      → ((k : ℕ) → k < n → P k (slice_index_or xs k d)) → (k : ℕ) → k < n + 1 → P k (slice_index_or (set xs at x) k d)
  filled xs n at x e fits here before k low = elim (cases_eq k at) [
    | inl same ↦
        let within : at < length xs = omega arith in
        rw (same, get_or-set_same xs at x d within, e) here
    | inr other ↦ rw (get_or-set_other xs at k x d other) (before k (omega arith))
  ]
