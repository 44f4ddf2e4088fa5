-- Strings and sums over 0, 1, ..., n - 1: none, and one more.
use Rattle.std.proofs.Common.{◌≡◌, ℕ, zero, suc, ◌+◌, ◌*◌, ◌<◌, List, [], ◌++◌, length, refl, sym, arith, add-one, append-nil, append_assoc, length-append}
use Rattle.signature_defs.specs.Strings.{strings, sums}

pub sums_none : (f : ℕ → ℕ) → sums f 0 ≡ 0
unfolding sums
sums_none f = refl

pub sums_more : (f : ℕ → ℕ) (n : ℕ) → sums f (n + 1) ≡ sums f n + f n
unfolding sums
sums_more f n = rw (add-one n) refl

pub strings_none : (f : ℕ → List ℕ) → strings f 0 ≡ []
unfolding strings
strings_none f = refl

pub strings_more : (f : ℕ → List ℕ) (n : ℕ) → strings f (n + 1) ≡ strings f n ++ f n
unfolding strings
strings_more f n = rw (add-one n) refl

-- behind what stands before them
pub before_strings_none : (s : List ℕ) (f : ℕ → List ℕ) → s ≡ s ++ strings f 0
before_strings_none s f = rw (strings_none f) (sym (append-nil s))

pub before_strings_more : (s : List ℕ) (f : ℕ → List ℕ) (n : ℕ) → s ++ strings f n ++ f n ≡ s ++ strings f (n + 1)
before_strings_more s f n = rw (strings_more f n) (append_assoc s (strings f n) (f n))

-- strings of one length
pub length-strings : (f : ℕ → List ℕ) (n k : ℕ) → ((i : ℕ) → length (f i) ≡ k) → length (strings f n) ≡ n * k
unfolding strings
length-strings f zero k each = omega arith
length-strings f (suc n) k each = rw (length-append, length-strings f n k each, each n) (omega arith)

pub same_strings : (f g : ℕ → List ℕ) (n : ℕ) → ((i : ℕ) → i < n → f i ≡ g i) → strings f n ≡ strings g n
unfolding strings
same_strings f g zero each = refl
same_strings f g (suc n) each = rw (same_strings f g n (λ i lt. each i (omega arith)), each n (omega arith)) refl
