-- A message that is one block with its padding.
use Rattle.std.proofs.Common.{◌≡◌, ℕ, ◌-◌, ◌*◌, ◌/◌, ◌%◌, ◌^◌, ◌≤◌, List, length, take, replicate, refl, arith, length-append}
use Rattle.std.proofs.lemmas.List.{take_all, length-replicate}
use Rattle.std.specs.Int.{w64, to_be_bytes}
use Rattle.sha2.specs.Sha256.{compress, digest_bytes, hash_after, initial_hash_256, padded_message, padding, sha256}

length-padded : (m : List ℕ) → length m ≤ 55 → length (padded_message m) ≡ 64
length-padded m short =
    let n : ℕ = length m in
    let zeros : List ℕ = replicate ((119 - n % 64) % 64) 0 in
    let count : List ℕ = to_be_bytes w64 (n * 8 % 2 ^ 64) in
    let eight : length count ≡ 8 = refl in
    omega (arith, length-append m (padding n), length-append zeros count, length-replicate {A = ℕ} ((119 - n % 64) % 64) 0, eight)

pub sha256_of_block : (m h : List ℕ) → length m ≤ 55 → h ≡ compress initial_hash_256 (padded_message m)
    → digest_bytes h 8 ≡ sha256 m
unfolding sha256 hash_after
sha256_of_block m h short e =
    let long = length-padded m short in
    let one : length (padded_message m) / 64 ≡ 1 = omega arith in
    let whole : take 64 (padded_message m) ≡ padded_message m = take_all 64 (padded_message m) (omega arith) in
    rw (one, whole, e) refl
