-- LMS signatures, a tree over one-time keys, with SHA-256, so that m = 32 (RFC 8554, section 5).
-- Names here (* for this crate alone):
--   parameter sets (5.1, table 2): lms_height_of, lms_signature_length, D_LEAF*, D_INTR*
--   the tree (5.3): leaf, inner, node, lms_public_key
--   signatures (5.4): sibling, path_node, lms_signature
--   verification (5.4.2): parent*, climbed, root_candidate*, has_types*, valid_by*, lms_valid
use Rattle.std.specs.Prelude.{ℕ, zero, suc, ◌+◌, ◌-◌, ◌*◌, ◌/◌, ◌%◌, ◌^◌, ◌==◌, nat_lt, if◌then◌else◌, Bool, ◌&&◌, List, [], ◌∷◌, ◌++◌, length, Option}
use Rattle.byte_defs.specs.Choices.{first_that_holds, is_some_and}
use Rattle.byte_defs.specs.Equality.{same_bytes}
use Rattle.sha2.specs.Sha256.{sha256}
use Rattle.signature_defs.specs.declared.OtsType.{OtsType}
use Rattle.signature_defs.specs.Strings.{u16str, u32str, part, u32_at, strings}
use Rattle.signature_defs.specs.LmOts.{ots_typecode, ots_type_of, ots_signature_length, ots_public_key, ots_signature, ots_candidate}

-- ---- parameter sets (5.1, table 2)

-- h, the height of the tree, by the typecode
abbrev pub lms_height_of : ℕ → Option ℕ
lms_height_of code = first_that_holds ((code == 5, 5) ∷ (code == 6, 10) ∷ (code == 7, 15) ∷ (code == 8, 20) ∷ (code == 9, 25) ∷ [])

-- q, one-time signature, typecode, path (5.4)
abbrev pub lms_signature_length : OtsType → ℕ → ℕ
lms_signature_length kind h = 4 + ots_signature_length kind + 4 + 32 * h

abbrev pub D_LEAF : ℕ
D_LEAF = 0x8282

abbrev pub D_INTR : ℕ
D_INTR = 0x8383

-- ---- the tree (5.3)

-- T[r] of a leaf, from its one-time public key
abbrev pub leaf : List ℕ → ℕ → List ℕ → List ℕ
leaf id r key = sha256 (id ++ u32str r ++ u16str D_LEAF ++ key)

-- T[r] of an inner node, from T[2r] and T[2r + 1]
abbrev pub inner : List ℕ → ℕ → List ℕ → List ℕ → List ℕ
inner id r left right = sha256 (id ++ u32str r ++ u16str D_INTR ++ left ++ right)

-- T[r] of a tree of height h, for a node k levels above the leaves. The leaves are the nodes from 2^h on.
unfoldable pub node : OtsType → ℕ → List ℕ → List ℕ → ℕ → ℕ → List ℕ
node kind h id seed zero r = leaf id r (ots_public_key kind id (r - 2 ^ h) seed)
node kind h id seed (suc k) r = inner id r (node kind h id seed k (2 * r)) (node kind h id seed k (2 * r + 1))

-- u32 typecode, u32 one-time typecode, I, T[1] (5.3)
abbrev pub lms_public_key : ℕ → OtsType → ℕ → List ℕ → List ℕ → List ℕ
lms_public_key code kind h id seed = u32str code ++ u32str (ots_typecode kind) ++ id ++ node kind h id seed h 1

-- ---- signatures (5.4)

-- the other child of a node's parent: r xor 1
abbrev pub sibling : ℕ → ℕ
sibling r = if r % 2 == 0 then r + 1 else r - 1

-- path[i] of leaf q: the sibling of the leaf's ancestor i levels up
abbrev pub path_node : OtsType → ℕ → List ℕ → List ℕ → ℕ → ℕ → List ℕ
path_node kind h id seed q i = node kind h id seed i (sibling ((2 ^ h + q) / 2 ^ i))

-- u32 q, one-time signature, u32 typecode, path (5.4.1)
abbrev pub lms_signature : ℕ → OtsType → ℕ → List ℕ → List ℕ → ℕ → List ℕ → List ℕ
lms_signature code kind h id seed q message =
    u32str q ++ ots_signature kind id q seed message ++ u32str code ++ strings (path_node kind h id seed q) h

-- ---- verification (5.4.2)

-- the parent of node r, from the values of r and of its sibling: a node of odd number is on the right (algorithm 6a, step 4)
abbrev pub parent : List ℕ → ℕ → List ℕ → List ℕ → List ℕ
parent id r value beside = if r % 2 == 0 then inner id (r / 2) value beside else inner id (r / 2) beside value

-- the value i levels above node r, by the path's nodes
unfoldable pub climbed : List ℕ → ℕ → List ℕ → (ℕ → List ℕ) → ℕ → List ℕ
climbed id r value path zero = value
climbed id r value path (suc i) = parent id (r / 2 ^ i) (climbed id r value path i) (path i)

-- Tc (algorithm 6a)
abbrev pub root_candidate : OtsType → ℕ → List ℕ → ℕ → List ℕ → List ℕ → List ℕ
root_candidate kind h id q key sig = climbed id (2 ^ h + q) (leaf id (2 ^ h + q) key)
    (λ i. part (8 + ots_signature_length kind + 32 * i) 32 sig) h

-- the signature names the key's two types and a leaf of the tree, and has their length (algorithm 6a, step 2)
abbrev pub has_types : List ℕ → OtsType → ℕ → List ℕ → Bool
has_types key kind h sig =
    (length sig == lms_signature_length kind h) && (u32_at 4 sig == ots_typecode kind)
    && (u32_at (4 + ots_signature_length kind) sig == u32_at 0 key) && nat_lt (u32_at 0 sig) (2 ^ h)

-- under a key of these two types
abbrev pub valid_by : OtsType → ℕ → List ℕ → List ℕ → List ℕ → Bool
valid_by kind h key message sig =
    let id = part 8 16 key in
    let q = u32_at 0 sig in
    has_types key kind h sig
    && is_some_and (ots_candidate id q message (part 4 (ots_signature_length kind) sig))
    (λ found. same_bytes (root_candidate kind h id q found sig) (part 24 32 key))

-- the signature is valid under the key on the message (algorithm 6)
abbrev pub lms_valid : List ℕ → List ℕ → List ℕ → Bool
lms_valid key message sig =
    (length key == 56)
    && is_some_and (lms_height_of (u32_at 0 key)) (λ h. is_some_and (ots_type_of (u32_at 4 key)) (λ kind. valid_by kind h key message sig))
