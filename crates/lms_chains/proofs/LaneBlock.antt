-- The words of a step's block.
use Rattle.std.proofs.Common.{◌≡◌, ℕ, zero, suc, ◌*◌, ◌/◌, ◌%◌, ◌^◌, ◌<◌, [], ◌∷◌, ◌++◌, arith}
use Rattle.std.specs.Int.{w32, to_be_bytes}
use Rattle.sha2.specs.Sha256.{add32, word_at}
use Rattle.signature_defs.specs.Strings.{u8str, u16str}

pub first_is : (i j v : ℕ) → i < 2 ^ 16 → j < 256 → v < 2 ^ 32
    → add32 (add32 (i * 2 ^ 16 % 2 ^ 32) (256 * j)) (v / 2 ^ 24) ≡ word_at (u16str i ++ u8str j ++ to_be_bytes w32 v) 0
first_is i j v hi hj hv = omega arith

pub joined_is : (v w : ℕ) → w < 2 ^ 32
    → add32 (v * 2 ^ 8 % 2 ^ 32) (w / 2 ^ 24) ≡ word_at (to_be_bytes w32 v ++ to_be_bytes w32 w) 1
joined_is v w hw = omega arith

pub last_is : (v : ℕ) → add32 (v * 2 ^ 8 % 2 ^ 32) 0x80 ≡ word_at (to_be_bytes w32 v ++ 0x80 ∷ []) 1
last_is v = omega arith

-- what holds of each of five words
pub below_five : (P : ℕ → Type 0) → P 0 → P 1 → P 2 → P 3 → P 4 → (k : ℕ) → k < 5 → P k
below_five P p0 p1 p2 p3 p4 zero h = p0
below_five P p0 p1 p2 p3 p4 (suc zero) h = p1
below_five P p0 p1 p2 p3 p4 (suc (suc zero)) h = p2
below_five P p0 p1 p2 p3 p4 (suc (suc (suc zero))) h = p3
below_five P p0 p1 p2 p3 p4 (suc (suc (suc (suc zero)))) h = p4
below_five P p0 p1 p2 p3 p4 (suc (suc (suc (suc (suc n))))) h = absurd (omega arith)
