-- Where an element is put among others.
use Rattle.std.proofs.Common.{◌≡◌, ℕ, zero, suc, ◌+◌, ◌<◌, List, [], ◌∷◌, Bool, true, false, refl, sym, ap, ◌∙◌, arith, map, length, below_more}
use Rattle.std.specs.Prelude.{if◌then◌else◌, insert, slice_index_or}
use Rattle.byte_defs.specs.Orders.{put, numbers_below}

-- within the list it does not matter what stands for the elements behind it
same-within : {A : Type 0} (xs : List A) (n : ℕ) (d e : A) → n < length xs → slice_index_or xs n d ≡ slice_index_or xs n e
same-within [] n d e lt = absurd (omega (arith, lt))
same-within (x ∷ xs) zero d e lt = refl
same-within (x ∷ xs) (suc n) d e lt = same-within xs n d e (omega (arith, lt))

module _ {A B : Type 0} (view : A → B) (key : B → List ℕ) (a : A) where
  abbrev lie_before : A → Bool
  lie_before x = numbers_below (key (view a)) (key (view x))

  -- it stands before none of the first so many
  abbrev pub IsBehind : List A → ℕ → Type 0
  IsBehind xs n = (k : ℕ) → k < n → (d : A) → lie_before (slice_index_or xs k d) ≡ false

  -- nor before the next one, so before none of one more
  pub one-more : (xs : List A) (n : ℕ) (d : A) → n < length xs → IsBehind xs n → lie_before (slice_index_or xs n d) ≡ false
      → IsBehind xs (n + 1)
  one-more xs n d lt behind not' = below_more (λ k. (e : A) → lie_before (slice_index_or xs k e) ≡ false) n behind
      (λ e. ap lie_before (same-within xs n e d lt) ∙ not')

  -- behind them, it is put where it stands before the next one
  pub put-before : (xs : List A) (n : ℕ) (d : A) → n < length xs → IsBehind xs n → lie_before (slice_index_or xs n d) ≡ true
      → map view (insert xs n a) ≡ put key (view a) (map view xs)
  put-before [] n d lt behind before = absurd (omega (arith, lt))
  put-before (x ∷ xs) zero d lt behind before = sym
      (ap (λ b. if b then view a ∷ view x ∷ map view xs else view x ∷ put key (view a) (map view xs)) before)
  put-before (x ∷ xs) (suc n) d lt behind before =
      ap (λ ys. view x ∷ ys) (put-before xs n d (omega (arith, lt)) (λ k less e. behind (suc k) (omega (arith, less)) e) before)
      ∙ sym (ap (λ b. if b then view a ∷ view x ∷ map view xs else view x ∷ put key (view a) (map view xs)) (behind zero (omega arith) d))

  -- behind all of them, it is the last
  pub put-last : (xs : List A) → IsBehind xs (length xs) → map view (insert xs (length xs) a) ≡ put key (view a) (map view xs)
  put-last [] behind = refl
  put-last (x ∷ xs) behind =
      ap (λ ys. view x ∷ ys) (put-last xs (λ k less e. behind (suc k) (omega (arith, less)) e))
      ∙ sym (ap (λ b. if b then view a ∷ view x ∷ map view xs else view x ∷ put key (view a) (map view xs)) (behind zero (omega arith) a))
