-- Chains, step by step.
use Rattle.std.proofs.Common.{◌≡◌, ℕ, zero, suc, ◌+◌, ◌-◌, ◌≤◌, List, ◌++◌, length, zero-add, refl, arith}
use Rattle.sha2.proofs.Facts256.{length-sha256}
use Rattle.sha2.specs.Sha256.{sha256}
use Rattle.signature_defs.specs.Strings.{u8str}
use Rattle.signature_defs.specs.LmOts.{chain}

pub chain_none : (head tmp : List ℕ) (j n : ℕ) → n ≡ 0 → chain head j n tmp ≡ tmp
unfolding chain
chain_none head tmp j n e = rw e refl

-- step j comes after those from i on to it
pub chain_more : (head tmp : List ℕ) (i j : ℕ) → i ≤ j → sha256 (head ++ u8str j ++ chain head i (j - i) tmp) ≡ chain head i (j + 1 - i) tmp
unfolding chain
chain_more head tmp i j le =
    let one : j + 1 - i ≡ suc (j - i) = omega arith in
    let at : i + (j - i) ≡ j = omega arith in
    rw (one, at) refl

-- a chain goes on where an earlier part of it ends
pub chain-chain : (head tmp : List ℕ) (i n m : ℕ) → chain head (i + n) m (chain head i n tmp) ≡ chain head i (n + m) tmp
unfolding chain
chain-chain head tmp i n zero = let e : n + 0 ≡ n = omega arith in rw e refl
chain-chain head tmp i n (suc m) =
    let e : n + suc m ≡ suc (n + m) = omega arith in
    let at : i + n + m ≡ i + (n + m) = omega arith in
    rw (e, at, chain-chain head tmp i n m) refl

pub length-chain : (head tmp : List ℕ) (j n : ℕ) → length tmp ≡ 32 → length (chain head j n tmp) ≡ 32
unfolding chain
length-chain head tmp j zero len = len
length-chain head tmp j (suc n) len = length-sha256 _

-- from what stands d steps on, the steps that are left lead to the end
pub chain_rest : (head tmp y : List ℕ) (d n : ℕ) → d ≤ n → y ≡ chain head 0 d tmp → chain head d (n - d) y ≡ chain head 0 n tmp
chain_rest head tmp y d n le e =
    let all : d + (n - d) ≡ n = omega arith in
    let whole = chain-chain head tmp 0 d (n - d) in
    rw e (rw (zero-add, all) at whole)
