-- A mask is the mask of its members.
use Rattle.std.specs.Prelude.{◌≡◌, ℕ, ◌+◌, ◌*◌, ◌/◌, ◌%◌, ◌^◌, ◌<◌, ◌==◌, true, false, ◌∷◌, refl, filter, if◌then◌else◌}
use Rattle.std.proofs.Common.{zero, suc, ap, ◌∙◌, arith, add-one}
use Rattle.std.proofs.Math.Nat.{div-div-eq-div-mul, pow-suc}
use Rattle.std.proofs.Math.Arith.{mod-mul}
use Rattle.std.proofs.lemmas.Nat.{pow_pos}
use Rattle.std.specs.List.{range_with_len}
use Rattle.std.specs.Int.{bit_at}
use borrow.Author.Tests.{eqb-true, eqb-false}
use Rattle.rp_base.specs.Pids.{all_numbers, members, mask_of}

-- the next power
double : (a : ℕ) → 2 ^ (a + 1) ≡ 2 ^ a * 2
double a = rw add-one (pow-suc 2 a)

-- the lowest digit, and those above it
low_digit : (m a n : ℕ) → m / 2 ^ a % 2 ^ suc n ≡ (m / 2 ^ (a + 1) % 2 ^ n) * 2 + bit_at m a
low_digit m a n =
    let split = mod-mul (m / 2 ^ a) {m = 2 ^ n} {c = 2} (pow_pos n) (omega arith) in
    rw (pow-suc 2 n, split, div-div-eq-div-mul m (2 ^ a) 2, double a) refl

-- a digit at its place, beside those above it
digit_one : (x d y q : ℕ) → x ≡ y * 2 + 1 → d ≡ q * 2 → q + y * d ≡ x * q
digit_one x d y q e f = rw (e, f) (omega arith)

digit_zero : (x d y q : ℕ) → x ≡ y * 2 + 0 → d ≡ q * 2 → y * d ≡ x * q
digit_zero x d y q e f = rw (e, f) (omega arith)

-- a bit that is not 1 is 0
pub bit_of : (m a : ℕ) → (bit_at m a == 1) ≡ false → bit_at m a ≡ 0
bit_of m a e = let no : (bit_at m a ≡ 1) → ⊥ = eqb-false _ _ e in omega arith

-- the bits from a on, n of them
mask_of-range : (m a n : ℕ) → mask_of (filter (λ p. bit_at m p == 1) (range_with_len a n)) ≡ (m / 2 ^ a % 2 ^ n) * 2 ^ a
mask_of-range m a zero = grind arith
mask_of-range m a (suc n) =
    elim (bit_at m a == 1) as (λ b. bit_at m a == 1 ≡ b
    → mask_of (if b then a ∷ filter (λ p. bit_at m p == 1) (range_with_len (a + 1) n)
    else filter (λ p. bit_at m p == 1) (range_with_len (a + 1) n)) ≡ (m / 2 ^ a % 2 ^ (suc n)) * 2 ^ a) [
      | true ↦ λ e. rw (mask_of-range m (a + 1) n)
          (digit_one _ _ _ _ (low_digit m a n ∙ ap (λ b. (m / 2 ^ (a + 1) % 2 ^ n) * 2 + b) (eqb-true _ _ e)) (double a))
      | false ↦ λ e. rw (mask_of-range m (a + 1) n)
          (digit_zero _ _ _ _ (low_digit m a n ∙ ap (λ b. (m / 2 ^ (a + 1) % 2 ^ n) * 2 + b) (bit_of m a e)) (double a))
    ] refl

-- all of them
pub mask_of-members : (m : ℕ) → m < 2 ^ 64 → mask_of (members m) ≡ m
unfolding members all_numbers
mask_of-members m below = mask_of-range m 0 all_numbers ∙ grind arith
