-- HSS signatures, trees in 1 to 8 levels (RFC 8554, section 6). Level 0 is the top: its one tree signs the public keys of
-- the trees of level 1, these sign those of level 2, and so on; the trees of the lowest level sign the messages.
-- Names here (* for this crate alone):
--   private keys: HssSecret, hss_total, levels_in_range, height_in_range, length_in_range
--   which leaves sign (6.2): tree_number, leaf_number
--   the trees (6.1): derived*, tree_id, tree_seed, tree_key, hss_public_key
--   signatures (6.2): signed_text*, level_signature, signed_key, signed_keys, hss_signature, hss_signature_length
--   verification (6.3): length_under, levels_valid, hss_valid
use Rattle.std.specs.Prelude.{ℕ, zero, suc, ◌+◌, ◌-◌, ◌*◌, ◌/◌, ◌%◌, ◌^◌, ◌==◌, nat_le, if◌then◌else◌, Bool, true, ◌&&◌, ◌||◌, List, ◌++◌, length, take, drop, codes, Option, option_map, option_and_then}
use Rattle.byte_defs.specs.Choices.{is_some_and}
use Rattle.sha2.specs.Sha256.{sha256}
use Rattle.signature_defs.specs.declared.OtsType.{OtsType}
use Rattle.signature_defs.specs.declared.OtsType.TheVariants.{W1, W2, W4, W8}
use Rattle.signature_defs.specs.Strings.{u8str, u32str, part, u32_at, strings}
use Rattle.signature_defs.specs.LmOts.{ots_type_of}
use Rattle.signature_defs.specs.Lms.{lms_height_of, lms_public_key, lms_signature, lms_signature_length, lms_valid}

-- ---- private keys

-- All trees are of one height h, with its typecode, and of one one-time parameter set; I and SEED are those of the top.
pub record HssSecret : Type 0 where
  pub levels : ℕ
  pub code : ℕ
  pub kind : OtsType
  pub h : ℕ
  pub id : List ℕ
  pub seed : List ℕ

-- how many messages it signs
abbrev pub hss_total : HssSecret → ℕ
hss_total key = 2 ^ (key.h * key.levels)

-- Our own limits on the keys that are made: one signature has at most 16,384 bytes, and their number fits 32 bits.
abbrev pub levels_in_range : ℕ → Bool
levels_in_range levels = nat_le 1 levels && nat_le levels 3

-- by the number of levels, and the typecode of a tree
abbrev pub height_in_range : ℕ → ℕ → Bool
height_in_range levels code = nat_le 5 code && (nat_le code 6 || ((code == 7) && nat_le levels 2))

-- by the number of levels, and the one-time parameter set
abbrev pub length_in_range : ℕ → OtsType → Bool
length_in_range levels W1 = nat_le levels 1
length_in_range levels W2 = true
length_in_range levels W4 = true
length_in_range levels W8 = true

-- ---- which leaves sign (6.2)

-- The leaves of a level are used from left to right, each for as many messages as the trees under it sign. Trees and
-- leaves are numbered from 0: the trees along their level, the leaves in their tree.

-- the tree of level d that signature number c uses
abbrev pub tree_number : HssSecret → ℕ → ℕ → ℕ
tree_number key d c = c / 2 ^ (key.h * (key.levels - d))

-- and its leaf
abbrev pub leaf_number : HssSecret → ℕ → ℕ → ℕ
leaf_number key d c = c / 2 ^ (key.h * (key.levels - 1 - d)) % 2 ^ key.h

-- ---- the trees (6.1)

-- What tree t of level d is made from, below the top: label 0 gives I, label 1 SEED. The RFC leaves this choice open.
abbrev pub derived : HssSecret → ℕ → ℕ → ℕ → List ℕ
derived key label d t = sha256 (codes "RPH1" ++ u8str label ++ u8str d ++ u32str t ++ key.id ++ key.seed)

-- I of tree t of level d
abbrev pub tree_id : HssSecret → ℕ → ℕ → List ℕ
tree_id key d t = if d == 0 then key.id else take 16 (derived key 0 d t)

-- SEED of tree t of level d
abbrev pub tree_seed : HssSecret → ℕ → ℕ → List ℕ
tree_seed key d t = if d == 0 then key.seed else derived key 1 d t

-- the public key of tree t of level d
abbrev pub tree_key : HssSecret → ℕ → ℕ → List ℕ
tree_key key d t = lms_public_key key.code key.kind key.h (tree_id key d t) (tree_seed key d t)

-- u32 L, pub[0] (6.1)
abbrev pub hss_public_key : HssSecret → List ℕ
hss_public_key key = u32str key.levels ++ tree_key key 0 0

-- ---- signatures (6.2)

-- what level d signs for signature number c: the lowest the message, each other the key of the tree below
abbrev pub signed_text : HssSecret → ℕ → ℕ → List ℕ → List ℕ
signed_text key c d message = if d + 1 == key.levels then message else tree_key key (d + 1) (tree_number key (d + 1) c)

-- sig[d]: level d's signature on a text
abbrev pub level_signature : HssSecret → ℕ → ℕ → List ℕ → List ℕ
level_signature key c d text =
    let t = tree_number key d c in
    lms_signature key.code key.kind key.h (tree_id key d t) (tree_seed key d t) (leaf_number key d c) text

-- signed_pub_key[d]: sig[d], pub[d + 1]
abbrev pub signed_key : HssSecret → ℕ → ℕ → List ℕ
signed_key key c d =
    let below : List ℕ = tree_key key (d + 1) (tree_number key (d + 1) c) in
    level_signature key c d below ++ below

-- u32 Nspk, signed_pub_key[0], ..., signed_pub_key[Nspk - 1]
abbrev pub signed_keys : HssSecret → ℕ → List ℕ
signed_keys key c = u32str (key.levels - 1) ++ strings (signed_key key c) (key.levels - 1)

-- u32 Nspk, the signed keys, sig[Nspk]
abbrev pub hss_signature : HssSecret → ℕ → List ℕ → List ℕ
hss_signature key c message = signed_keys key c ++ level_signature key c (key.levels - 1) message

-- the bytes of a signature: Nspk, for each level an LMS signature, and for each but the top a key of 56 bytes
abbrev pub hss_signature_length : ℕ → OtsType → ℕ → ℕ
hss_signature_length levels kind h = 4 + (levels - 1) * (lms_signature_length kind h + 56) + lms_signature_length kind h

-- ---- verification (6.3)

-- how many bytes a signature under an LMS key has, by the key's types
abbrev pub length_under : List ℕ → Option ℕ
length_under key = option_and_then (λ h. option_map (λ kind. lms_signature_length kind h) (ots_type_of (u32_at 4 key)))
    (lms_height_of (u32_at 0 key))

-- Under a key, n signed keys and then the signature on the message: the first signature is on the key after it, under which
-- the rest is valid.
unfoldable pub levels_valid : ℕ → List ℕ → List ℕ → List ℕ → Bool
levels_valid zero key message sig = lms_valid key message sig
levels_valid (suc n) key message sig = is_some_and (length_under key) (λ len.
    let below : List ℕ = part len 56 sig in
    lms_valid key below (take len sig) && levels_valid n below message (drop (len + 56) sig))

-- the signature is valid under the key on the message
abbrev pub hss_valid : List ℕ → List ℕ → List ℕ → Bool
hss_valid key message sig =
    let levels : ℕ = u32_at 0 key in
    (length key == 60) && (nat_le 1 levels && nat_le levels 8) && nat_le 4 (length sig) && (u32_at 0 sig == levels - 1)
    && levels_valid (levels - 1) (drop 4 key) message (drop 4 sig)
