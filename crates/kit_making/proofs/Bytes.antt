-- What is hashed, and public keys, are bytes.
use Rattle.std.proofs.Common.{ℕ, zero, suc, ◌+◌, ◌<◌, List, [], ◌∷◌, ◌++◌, take, ap, ◌∙◌, arith, lit<, length-append}
use Rattle.std.specs.Prelude.{slice_index}
use Rattle.std.proofs.lemmas.List.{length-take-le}
use Rattle.std.specs.Int.{w32, bytes_high_first, byte_at, to_be_bytes}
use Rattle.hex.specs.Hex.{IsBytes}
use Rattle.sha2.specs.Sha256.{digest_bytes, sha256}
use Rattle.sha2.proofs.Facts256.{length-sha256}
use Rattle.signature_defs.specs.declared.OtsType.{OtsType}
use Rattle.signature_defs.specs.LmOts.{ots_typecode}
use Rattle.signature_defs.specs.Lms.{node, lms_public_key}
use Rattle.signature_defs.specs.Strings.{u32str}
use Rattle.signature_defs.proofs.LmsLaws.{key_length}
use Rattle.text_defs.specs.Words.{AreBytes}

bytes_cons : (b : ℕ) (xs : List ℕ) → b < 256 → IsBytes xs → IsBytes (b ∷ xs)
bytes_cons b xs h hs zero = h
bytes_cons b xs h hs (suc i) = hs i

none_is : IsBytes []
none_is i = lit< tt

bytes_append : (xs ys : List ℕ) → IsBytes xs → IsBytes ys → IsBytes (xs ++ ys)
bytes_append [] ys h hs = hs
bytes_append (x ∷ xs) ys h hs = bytes_cons x (xs ++ ys) (h 0) (bytes_append xs ys (λ i. h (suc i)) hs)

bytes_take : (n : ℕ) (xs : List ℕ) → IsBytes xs → IsBytes (take n xs)
bytes_take zero xs h = none_is
bytes_take (suc n) [] h = none_is
bytes_take (suc n) (x ∷ xs) h = bytes_cons x (take n xs) (h 0) (bytes_take n xs (λ i. h (suc i)))

byte_small : (i n : ℕ) → byte_at i n < 256
byte_small zero n = omega arith
byte_small (suc i) n = omega arith

high_first : (k n : ℕ) → IsBytes (bytes_high_first k n)
high_first zero n = none_is
high_first (suc k) n = bytes_cons (byte_at k n) (bytes_high_first k n) (byte_small k n) (high_first k n)

digest_first : (h : List ℕ) (n : ℕ) → IsBytes (digest_bytes h n)
unfolding digest_bytes
digest_first h zero = none_is
digest_first h (suc n) = bytes_append (digest_bytes h n) (to_be_bytes w32 (slice_index h n)) (digest_first h n)
    (high_first 4 (slice_index h n))

hash_bytes : (m : List ℕ) → IsBytes (sha256 m)
unfolding sha256
hash_bytes m = digest_first _ 8

-- a hash is 32 bytes
pub hash_is : (m : List ℕ) → AreBytes 32 (sha256 m)
hash_is m = (length-sha256 m, hash_bytes m)

-- and its first half 16
pub half_is : (m : List ℕ) → AreBytes 16 (take 16 (sha256 m))
half_is m = (length-take-le 16 (sha256 m) (omega (arith, length-sha256 m)), bytes_take 16 (sha256 m) (hash_bytes m))

node_bytes : (kind : OtsType) (h : ℕ) (id seed : List ℕ) (k r : ℕ) → IsBytes (node kind h id seed k r)
unfolding node
node_bytes kind h id seed zero r = hash_bytes _
node_bytes kind h id seed (suc k) r = hash_bytes _

u32_bytes : (n : ℕ) → IsBytes (u32str n)
u32_bytes n = high_first 4 n

-- the public key of a tree is 56 bytes
pub tree_key_is : (kind : OtsType) (code h : ℕ) (id seed : List ℕ) → AreBytes 16 id → AreBytes 56 (lms_public_key code kind h id seed)
tree_key_is kind code h id seed is = (
  key_length kind code h id seed is.0,
  bytes_append (u32str code ++ u32str (ots_typecode kind) ++ id) (node kind h id seed h 1)
      (bytes_append (u32str code ++ u32str (ots_typecode kind)) id
      (bytes_append (u32str code) (u32str (ots_typecode kind)) (u32_bytes code) (u32_bytes (ots_typecode kind))) is.1)
      (node_bytes kind h id seed h 1),
)

-- and that of trees in levels 60, behind whose number the top tree's stands
pub levels_key_is : (levels : ℕ) (top : List ℕ) → AreBytes 56 top → AreBytes 60 (u32str levels ++ top)
levels_key_is levels top is = (
  length-append (u32str levels) top ∙ ap (λ n. 4 + n) is.0,
  bytes_append (u32str levels) top (u32_bytes levels) is.1,
)
