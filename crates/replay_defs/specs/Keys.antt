-- The keys of a schedule, by their schemes.
use Rattle.std.specs.Prelude.{◌≡◌, ℕ, ◌<◌, ◌^◌, ◌&&◌, nat_le, Bool, true, if◌then◌else◌, List, ◌∷◌, ◌++◌, length, Option, Some, None, option_and_then}
use Rattle.byte_defs.specs.Fields.{four_bytes}
use Rattle.signature_defs.specs.declared.OtsType.{OtsType}
use Rattle.signature_defs.specs.LmOts.{ots_typecode, ots_type_of}
use Rattle.signature_defs.specs.Hss.{levels_in_range, height_in_range, length_in_range}
use Rattle.replay_defs.specs.declared.Scheme.{Scheme}
use Rattle.replay_defs.specs.declared.Scheme.TheVariants as schemes

-- what a process signs with
pub data Key : Type 0 where
  -- a key of 32 bytes, and how many bodies it is to sign
  Plain : (key : List ℕ) (total : ℕ) → Key
  -- one LMS tree: the typecode of its height, the one-time parameter set, I of 16 bytes and SEED of 32 (RFC 8554, Appendix A)
  Lms : (code : ℕ) (kind : OtsType) (id seed : List ℕ) → Key
  -- LMS trees in `levels` levels, all of one height and one-time type; the top tree has this I and SEED (RFC 8554, section 6)
  Hss : (levels code : ℕ) (kind : OtsType) (id seed : List ℕ) → Key

-- ---- the parameters

-- the number is from the least to the most
abbrev pub is_from : ℕ → ℕ → ℕ → Bool
is_from least most n = nat_le least n && nat_le n most

-- the one-time parameter set of this typecode, where trees in `levels` levels may have it
abbrev pub ots_for : ℕ → ℕ → Option OtsType
ots_for levels code = option_and_then (λ kind. if length_in_range levels kind then Some kind else None) (ots_type_of code)

-- ---- the spelling

-- height1, one-time type1, id16, seed32
abbrev pub tree_bytes : ℕ → OtsType → List ℕ → List ℕ → List ℕ
tree_bytes code kind id seed = code ∷ ots_typecode kind ∷ (id ++ seed)

-- key32 and total4 of a plain key; a tree's parameters; and before them levels1, where there may be several
abbrev pub key_bytes : Key → List ℕ
key_bytes (Plain key total) = key ++ four_bytes total
key_bytes (Lms code kind id seed) = tree_bytes code kind id seed
key_bytes (Hss levels code kind id seed) = levels ∷ tree_bytes code kind id seed

-- ---- the ranges

-- the parameters of a tree, in `levels` levels
abbrev pub IsTree : ℕ → ℕ → OtsType → List ℕ → List ℕ → Type 0
IsTree levels code kind id seed = (height_in_range levels code ≡ true) × (length_in_range levels kind ≡ true) × (length id ≡ 16)
    × (length seed ≡ 32)

-- a key of this scheme, in its ranges
abbrev pub IsKey : Scheme → Key → Type 0
IsKey schemes.Plain (Plain key total) = (length key ≡ 32) × (total < 2 ^ 32)
IsKey schemes.Lms (Lms code kind id seed) = IsTree 1 code kind id seed
IsKey schemes.Hss (Hss levels code kind id seed) = (levels_in_range levels ≡ true) × IsTree levels code kind id seed
IsKey _ _ = ⊥
