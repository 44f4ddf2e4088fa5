-- The members of a set rise.
use Rattle.std.proofs.Common.{◌≡◌, ℕ, zero, suc, ◌+◌, arith}
use Rattle.std.specs.Prelude.{◌==◌}
use Rattle.std.specs.List.{range_with_len}
use Rattle.std.specs.List.Sorted.{IsStrictlyIncreasing}
use Rattle.std.specs.Int.{bit_at}
use Rattle.std.proofs.lemmas.List.Kept.{IsStrictlyIncreasing-filter}
use Rattle.rp_base.specs.Pids.{all_numbers, members}

range-rises : (n a : ℕ) → IsStrictlyIncreasing (range_with_len a n)
range-rises zero a k low = absurd (omega (arith, low))
range-rises (suc zero) a k low = absurd (omega (arith, low))
range-rises (suc (suc n)) a zero low = omega arith
range-rises (suc (suc n)) a (suc k) low =
    let next : suc k + 1 ≡ suc (k + 1) = omega arith in rw next (range-rises (suc n) (a + 1) k (omega (arith, low)))

pub members-rise : (mask : ℕ) → IsStrictlyIncreasing (members mask)
unfolding members
members-rise mask = IsStrictlyIncreasing-filter (λ p. bit_at mask p == 1) (range_with_len 0 all_numbers) (range-rises all_numbers 0)
