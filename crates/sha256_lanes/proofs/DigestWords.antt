-- The words of a digest, and its bytes.
use Rattle.std.proofs.Common.{◌≡◌, ℕ, zero, suc, ◌+◌, ◌*◌, ◌<◌, ◌≤◌, List, [], ◌∷◌, ◌++◌, length, take, drop, slice_index, refl, sym, ap, ◌∙◌, arith, length-drop, add-zero, take-add}
use Rattle.std.proofs.lemmas.List.{get_or-drop}
use Rattle.std.proofs.lemmas.Nat.{be_bytes_4}
use Rattle.std.specs.Int.{w32, to_be_bytes}
use Rattle.sha2.specs.Sha256.{digest_bytes, word_at}

-- four bytes from a place on
abbrev four_at : List ℕ → ℕ → List ℕ
four_at s i = slice_index s i ∷ slice_index s (i + 1) ∷ slice_index s (i + 2) ∷ slice_index s (i + 3) ∷ []

first_four : (s : List ℕ) → 4 ≤ length s → take 4 s ≡ slice_index s 0 ∷ slice_index s 1 ∷ slice_index s 2 ∷ slice_index s 3 ∷ []
first_four (a ∷ b ∷ c ∷ d ∷ s) h = refl
first_four [] h = absurd (omega arith)
first_four (a ∷ []) h = absurd (omega arith)
first_four (a ∷ b ∷ []) h = absurd (omega arith)
first_four (a ∷ b ∷ c ∷ []) h = absurd (omega arith)

take_four : (s : List ℕ) (i : ℕ) → i + 4 ≤ length s → take (i + 4) s ≡ take i s ++ four_at s i
take_four s i fits =
    let left : 4 ≤ length (drop i s) = omega (arith, length-drop i s) in
    take-add i 4 s
    ∙ ap (λ (l : List ℕ). take i s ++ l) (first_four (drop i s) left
    ∙ rw (get_or-drop i s 0 0, get_or-drop i s 1 0, get_or-drop i s 2 0, get_or-drop i s 3 0, add-zero) refl)

four_bytes : (s : List ℕ) (i : ℕ) → ((k : ℕ) → slice_index s k < 256) → (k : ℕ) → slice_index (four_at s i) k < 256
four_bytes s i small zero = small i
four_bytes s i small (suc zero) = small (i + 1)
four_bytes s i small (suc (suc zero)) = small (i + 2)
four_bytes s i small (suc (suc (suc zero))) = small (i + 3)
four_bytes s i small (suc (suc (suc (suc k)))) = omega arith

-- words that were read from bytes are these bytes' digest
pub digest_of_words : (h s : List ℕ) (n : ℕ) → ((k : ℕ) → k < n → slice_index h k ≡ word_at s (4 * k)) → 4 * n ≤ length s
    → ((k : ℕ) → slice_index s k < 256) → digest_bytes h n ≡ take (4 * n) s
unfolding digest_bytes
digest_of_words h s zero words fits small = refl
digest_of_words h s (suc n) words fits small =
    let at : 4 * suc n ≡ 4 * n + 4 = omega arith in
    let before : digest_bytes h n ≡ take (4 * n) s = digest_of_words h s n (λ k lt. words k (omega arith)) (omega arith) small in
    let last : to_be_bytes w32 (slice_index h n) ≡ four_at s (4 * n) =
    be_bytes_4 (four_at s (4 * n)) (slice_index h n) refl (four_bytes s (4 * n) small) (words n (omega arith)) in
    rw (at, before, last) (sym (take_four s (4 * n) (omega arith)))

-- what holds of each of the eight words
pub below_eight : (P : ℕ → Type 0) → P 0 → P 1 → P 2 → P 3 → P 4 → P 5 → P 6 → P 7 → (k : ℕ) → k < 8 → P k
below_eight P p0 p1 p2 p3 p4 p5 p6 p7 zero h = p0
below_eight P p0 p1 p2 p3 p4 p5 p6 p7 (suc zero) h = p1
below_eight P p0 p1 p2 p3 p4 p5 p6 p7 (suc (suc zero)) h = p2
below_eight P p0 p1 p2 p3 p4 p5 p6 p7 (suc (suc (suc zero))) h = p3
below_eight P p0 p1 p2 p3 p4 p5 p6 p7 (suc (suc (suc (suc zero)))) h = p4
below_eight P p0 p1 p2 p3 p4 p5 p6 p7 (suc (suc (suc (suc (suc zero))))) h = p5
below_eight P p0 p1 p2 p3 p4 p5 p6 p7 (suc (suc (suc (suc (suc (suc zero)))))) h = p6
below_eight P p0 p1 p2 p3 p4 p5 p6 p7 (suc (suc (suc (suc (suc (suc (suc zero))))))) h = p7
below_eight P p0 p1 p2 p3 p4 p5 p6 p7 (suc (suc (suc (suc (suc (suc (suc (suc n)))))))) h = absurd (omega arith)
