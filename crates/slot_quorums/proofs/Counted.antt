-- How many members a mask has: as many as it has bits that are 1.
use Rattle.std.proofs.Common.{◌≡◌, ℕ, zero, suc, ◌+◌, ◌*◌, ◌/◌, ◌%◌, ◌^◌, ◌<◌, Bool, true, false, ◌∷◌, length, count_ones, refl, sym, ap, ◌∙◌, subst, arith, add-one}
use Rattle.std.proofs.Math.Nat.{div-div-eq-div-mul, pow-suc}
use Rattle.std.proofs.lemmas.Bool.{eqb-true}
use Rattle.std.proofs.lemmas.Nat.{ones_le_self}
use lib.Count.{ones_step}
use Rattle.std.specs.Prelude.{◌==◌, filter, if◌then◌else◌}
use Rattle.std.specs.List.{range_with_len}
use Rattle.std.specs.Int.{bit_at}
use Rattle.rp_base.specs.Pids.{members, all_numbers}
use Rattle.rp_base.specs.Masks.{bit_of}

half : (x d : ℕ) → x < d * 2 → x / 2 < d
half x d lt = omega (arith, lt)

-- the bits from a on, n of them
ones-from : (m a n : ℕ) → m / 2 ^ a < 2 ^ n → length (filter (λ p. bit_at m p == 1) (range_with_len a n)) ≡ count_ones (m / 2 ^ a)
ones-from m a zero lt = let none = ones_le_self (m / 2 ^ a) in omega (arith, lt, none)
ones-from m a (suc n) lt = go (bit_at m a == 1) refl
    (ones-from m (a + 1) n (subst (λ x. x < 2 ^ n) (sym above) (half (m / 2 ^ a) (2 ^ n) (subst (λ d. m / 2 ^ a < d) (pow-suc 2 n) lt))))
  where
    double : 2 ^ (a + 1) ≡ 2 ^ a * 2
    double = rw add-one (pow-suc 2 a)

    above : m / 2 ^ (a + 1) ≡ m / 2 ^ a / 2
    above = ap (λ d. m / d) double ∙ sym (div-div-eq-div-mul m (2 ^ a) 2)

    go : (b : Bool) → (bit_at m a == 1) ≡ b
        → length (filter (λ p. bit_at m p == 1) (range_with_len (a + 1) n)) ≡ count_ones (m / 2 ^ (a + 1))
        → length (if b then a ∷ filter (λ p. bit_at m p == 1) (range_with_len (a + 1) n)
        else filter (λ p. bit_at m p == 1) (range_with_len (a + 1) n)) ≡ count_ones (m / 2 ^ a)
    go true e rest =
        let bit : m / 2 ^ a % 2 ≡ 1 = eqb-true (bit_at m a) 1 e in
        let step = ones_step (m / 2 ^ a) in
        let fewer = ap count_ones above in omega (arith, rest, bit, step, fewer)
    go false e rest =
        let bit : m / 2 ^ a % 2 ≡ 0 = bit_of m a e in
        let step = ones_step (m / 2 ^ a) in
        let fewer = ap count_ones above in omega (arith, rest, bit, step, fewer)

pub ones-members : (mask : ℕ) → mask < 2 ^ 64 → length (members mask) ≡ count_ones mask
unfolding members all_numbers
ones-members mask lt =
    let start : mask / 2 ^ 0 ≡ mask = grind arith in
    ones-from mask 0 all_numbers (subst (λ x. x < 2 ^ all_numbers) (sym start) lt) ∙ ap count_ones start
