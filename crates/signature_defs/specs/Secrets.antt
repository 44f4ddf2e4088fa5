-- Secrets, and what each of them determines.
use Rattle.std.specs.Prelude.{ℕ, ◌^◌, nat_le, Bool, ◌&&◌, List}
use Rattle.std.specs.Option.{unwrap_or}
use Rattle.signature_defs.specs.declared.OtsType.{OtsType}
use Rattle.signature_defs.specs.Plain.{plain_signature}
use Rattle.signature_defs.specs.Lms.{lms_height_of, lms_public_key, lms_signature, lms_signature_length}
use Rattle.signature_defs.specs.Hss.{HssSecret, height_in_range, hss_public_key, hss_signature, hss_signature_length, hss_total, length_in_range, levels_in_range}
use Rattle.signature_defs.specs.Schemes as schemes
use Rattle.signature_defs.specs.Schemes.{Scheme}

pub data Secret : Type 0 where
  -- a key of 32 bytes, and how many bodies it is to sign
  Plain : (key : List ℕ) (total : ℕ) → Secret
  -- an LMS private key: the tree's typecode, the one-time parameter set, I of 16 bytes and SEED of 32 (RFC 8554, Appendix A)
  Lms : (code : ℕ) (kind : OtsType) (id seed : List ℕ) → Secret
  -- an HSS private key: `levels` levels of such trees, I and SEED of the top one
  Hss : (levels code : ℕ) (kind : OtsType) (id seed : List ℕ) → Secret

abbrev pub scheme_of : Secret → Scheme
scheme_of (Plain key total) = schemes.Plain
scheme_of (Lms code kind id seed) = schemes.Lms
scheme_of (Hss levels code kind id seed) = schemes.Hss

-- the height of the tree with this typecode. A typecode out of the RFC's table has no tree, and its 0 says nothing.
abbrev pub height_of : ℕ → ℕ
height_of code = unwrap_or (lms_height_of code) 0

-- trees in levels
abbrev pub hss_secret : ℕ → ℕ → OtsType → List ℕ → List ℕ → HssSecret
hss_secret levels code kind id seed = record { levels = levels; code = code; kind = kind; h = height_of code; id = id; seed = seed }

-- ---- which ones sign here

-- a tree of this typecode is built
abbrev pub tree_is_built : ℕ → Bool
tree_is_built code = nat_le 5 code && nat_le code 7

-- a key in `levels` levels of trees of this typecode and one-time parameter set is built
abbrev pub levels_are_built : ℕ → ℕ → OtsType → Bool
levels_are_built levels code kind = levels_in_range levels && (height_in_range levels code && length_in_range levels kind)

-- ---- what a secret determines

-- how many bodies it signs
abbrev pub total_of : Secret → ℕ
total_of (Plain key total) = total
total_of (Lms code kind id seed) = 2 ^ height_of code
total_of (Hss levels code kind id seed) = hss_total (hss_secret levels code kind id seed)

-- its public key: of a plain secret the key itself
abbrev pub public_key_of : Secret → List ℕ
public_key_of (Plain key total) = key
public_key_of (Lms code kind id seed) = lms_public_key code kind (height_of code) id seed
public_key_of (Hss levels code kind id seed) = hss_public_key (hss_secret levels code kind id seed)

-- how many bytes each of its signatures has
abbrev pub signature_length_of : Secret → ℕ
signature_length_of (Plain key total) = 32
signature_length_of (Lms code kind id seed) = lms_signature_length kind (height_of code)
signature_length_of (Hss levels code kind id seed) = hss_signature_length levels kind (height_of code)

-- its one signature on a body after q others: of an LMS secret that with the leaf of this number, of an HSS secret
-- that of this number
abbrev pub signature_of : Secret → ℕ → List ℕ → List ℕ
signature_of (Plain key total) q body = plain_signature key body
signature_of (Lms code kind id seed) q body = lms_signature code kind (height_of code) id seed q body
signature_of (Hss levels code kind id seed) q body = hss_signature (hss_secret levels code kind id seed) q body
