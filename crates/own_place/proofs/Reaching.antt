-- Where nothing is signed, no row is followed beyond its first slot.
use Rattle.std.proofs.Common.{◌≡◌, ℕ, zero, suc, List, refl, ap, ◌∙◌, arith}
use Rattle.std.specs.Prelude.{length, replicate, slice_index}
use Rattle.claim_index.specs.declared.key.SlotKey.{SlotKey}
use Rattle.own_place.specs.Rows.{AreReached, index_of}

all-zero : (n i : ℕ) → slice_index (replicate n 0) i ≡ 0
all-zero zero i = refl
all-zero (suc n) zero = refl
all-zero (suc n) (suc i) = all-zero n i

pub none-reached : (keys : List SlotKey) (x : ℕ) (reached : List ℕ) → reached ≡ replicate 67 0 → AreReached keys x reached
none-reached keys x reached e = record {
  rows = ap length e;
  below = λ row n lt. absurd (let zero = ap (λ xs. slice_index xs (index_of row)) e ∙ all-zero 67 (index_of row) in omega
      (arith, lt, zero));
}
