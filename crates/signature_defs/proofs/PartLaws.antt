-- Parts of strings that stand one behind another.
use Rattle.std.proofs.Common.{◌≡◌, ℕ, zero, suc, ◌+◌, ◌*◌, ◌^◌, ◌<◌, ◌≤◌, List, ◌++◌, length, take, drop, refl, sym, ◌∙◌, arith, add-one, length-drop, ⊎_elim}
use Rattle.std.proofs.lemmas.List.{take_at, drop_at, drop-drop, take-append-drop, take-append-le, drop-append-le, take_all}
use Rattle.std.proofs.lemmas.Bool.{cases_lt}
use Rattle.std.proofs.lemmas.Nat.{from_be_bytes-to_be_bytes_4}
use Rattle.std.proofs.Math.Nat.{mul-le-mul_left, mul-suc, mul_comm}
use Rattle.signature_defs.specs.Strings.{part, strings, u32str, u32_at}
use Rattle.signature_defs.proofs.StringLaws.{length-strings}

-- past what stands before it
pub part_behind : (s t : List ℕ) (m j k : ℕ) → length s ≡ m → part (m + j) k (s ++ t) ≡ part j k t
part_behind s t m j k len = rw (← drop-drop j m (s ++ t), drop_at s t m len) refl

-- the first one
pub part_front : (s t : List ℕ) (k : ℕ) → length s ≡ k → part 0 k (s ++ t) ≡ s
part_front s t k len = take_at s t k len

pub u32_front : (n : ℕ) (t : List ℕ) → n < 2 ^ 32 → u32_at 0 (u32str n ++ t) ≡ n
u32_front n t lt = from_be_bytes-to_be_bytes_4 n lt

-- the i-th of strings of one length
pub part_strings : (f : ℕ → List ℕ) (k : ℕ) → ((i : ℕ) → length (f i) ≡ k) → (n i : ℕ) → i < n → part (k * i) k (strings f n) ≡ f i
unfolding strings
part_strings f k each zero i lt = absurd (omega arith)
part_strings f k each (suc n) i lt =
    let len : length (strings f n) ≡ k * n = length-strings f n k each ∙ mul_comm n k in
    ⊎_elim (earlier len (part_strings f k each n i)) (last len) (cases_lt i n)
  where
    earlier : length (strings f n) ≡ k * n → (i < n → part (k * i) k (strings f n) ≡ f i) → i < n
        → part (k * i) k (strings f n ++ f n) ≡ f i
    earlier len before below =
        let room : k * i + k ≤ k * n = omega (arith, mul-le-mul_left k below) in
        let left : k ≤ length (drop (k * i) (strings f n)) = rw length-drop (omega arith) in
        rw (drop-append-le (k * i) (strings f n) (f n) (omega arith), take-append-le k (drop (k * i) (strings f n)) (f n) left)
        (before below)

    last : length (strings f n) ≡ k * n → n ≤ i → part (k * i) k (strings f n ++ f n) ≡ f i
    last len le =
        let here : i ≡ n = omega arith in
        rw (here, drop_at (strings f n) (f n) (k * n) len) (take_all k (f n) (omega (arith, each n)))

-- strings of one length and what stands behind them, from the i-th string on
pub front_string : (f : ℕ → List ℕ) (k : ℕ) → ((i : ℕ) → length (f i) ≡ k) → (n i : ℕ) (z : List ℕ) → i < n
    → drop (k * i) (strings f n ++ z) ≡ f i ++ drop (k * (i + 1)) (strings f n ++ z)
front_string f k each n i z lt =
    let room : k * i + k ≤ length (strings f n) = omega
    (arith, length-strings f n k each, mul_comm n k, mul-le-mul_left k lt, mul-suc k i) in
    let long : k ≤ length (drop (k * i) (strings f n)) = rw length-drop (omega arith) in
    let first : take k (drop (k * i) (strings f n ++ z)) ≡ f i =
    rw (drop-append-le (k * i) (strings f n) z (omega arith), take-append-le k (drop (k * i) (strings f n)) z long)
    (part_strings f k each n i lt) in
    let rest : drop k (drop (k * i) (strings f n ++ z)) ≡ drop (k * (i + 1)) (strings f n ++ z) = rw (drop-drop, add-one, mul-suc) refl in
    sym (take-append-drop k (drop (k * i) (strings f n ++ z))) ∙ rw (first, rest) refl
