-- One more hash, and one more process.
use Rattle.std.proofs.Common.{◌≡◌, ℕ, zero, suc, ◌+◌, List, [], ◌∷◌, ◌++◌, replicate, refl, arith}
use Rattle.bench_parts.specs.Hashes.{hashed, hashed_once}
use Rattle.bench_parts.specs.Keys.{key_of, plain_keys}

pub hashed_none : hashed 0 ≡ replicate 55 0
unfolding hashed
hashed_none = refl

pub hashed_more : (n : ℕ) → hashed (n + 1) ≡ hashed_once (hashed n)
unfolding hashed
hashed_more n = let e : n + 1 ≡ suc n = omega arith in rw e refl

pub no_keys : plain_keys 0 ≡ []
unfolding plain_keys
no_keys = refl

pub one_more_key : (n : ℕ) → plain_keys (n + 1) ≡ plain_keys n ++ (n, key_of n) ∷ []
unfolding plain_keys
one_more_key n = let e : n + 1 ≡ suc n = omega arith in rw e refl
