-- Counts of nothing.
use Rattle.std.proofs.Common.{◌≡◌, ℕ, zero, suc, ◌≤◌, List, [], ◌∷◌, map, length, take, replicate, refl, ap, arith}
use Rattle.group_defs.specs.Certified.{named}

pub none-counted : (n : ℕ) (ms : List ℕ) → length ms ≤ n → take (length ms) (replicate n 0) ≡ map (λ m. named m []) ms
none-counted n [] le = refl
none-counted zero (m ∷ ms) le = absurd (omega (arith, le))
none-counted (suc n) (m ∷ ms) le = ap (λ cs. 0 ∷ cs) (none-counted n ms (omega (arith, le)))
