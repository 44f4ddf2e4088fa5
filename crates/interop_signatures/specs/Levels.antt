-- Questions on signatures of trees in levels: which there are, and what is answered.
use Rattle.std.specs.Prelude.{◌≡◌, ℕ, ◌^◌, ◌<◌, ◌≤◌, List, [], ◌∷◌, ◌++◌, None, codes}
use Rattle.std.specs.Fmt.{decimal}
use Rattle.hex.specs.Hex.{IsBytes, encode_lower}
use Rattle.signature_defs.specs.declared.OtsType.{OtsType}
use Rattle.signature_defs.specs.LmOts.{ots_typecode}
use Rattle.signature_defs.specs.Secrets.{height_of}
use Rattle.signature_defs.specs.Hss.{HssSecret, hss_public_key, hss_signature, hss_total}
use Rattle.lms_hss.specs.Refusals.{refusal}
use Rattle.text_defs.specs.Words.{AreBytes, bytes_word}

-- A key by its levels, its trees' typecode, the one-time parameter set, I and SEED; the number of a signature, and what is
-- signed.
pub record LevelSigning : Type 0 where
  pub levels : ℕ
  pub typecode : ℕ
  pub ots : OtsType
  pub id : List ℕ
  pub seed : List ℕ
  pub number : ℕ
  pub body : List ℕ

abbrev pub secret : LevelSigning → HssSecret
secret s = record { levels = s.levels; code = s.typecode; kind = s.ots; h = height_of s.typecode; id = s.id; seed = s.seed }

-- numbers and bytes that words spell
pub record IsSpelled (s : LevelSigning) : Type 0 where
  pub levels : (1 ≤ s.levels) × (s.levels ≤ 3)
  pub typecode : (5 ≤ s.typecode) × (s.typecode ≤ 7)
  pub id : AreBytes 16 s.id
  pub seed : AreBytes 32 s.seed
  pub number : s.number < 2 ^ 32
  pub body : IsBytes s.body

-- a key that is made, and one of its signatures
pub record IsMade (s : LevelSigning) : Type 0 where
  pub made : refusal s.levels s.typecode s.ots ≡ None
  pub unspent : s.number < hss_total (secret s)

-- L H W I SEED C BODY
abbrev pub level_words : LevelSigning → List (List ℕ)
level_words s =
    decimal s.levels ∷ decimal s.typecode ∷ decimal (ots_typecode s.ots) ∷ encode_lower s.id ∷ encode_lower s.seed ∷ decimal s.number
    ∷ bytes_word s.body ∷ []

-- `KEY SIG`: the public key, and the signature
abbrev pub level_signed : LevelSigning → List ℕ
level_signed s = encode_lower (hss_public_key (secret s)) ++ (codes " " ++ encode_lower (hss_signature (secret s) s.number s.body))

-- the seven words after `hss` spell these
pub record LevelsAskedBy (levels typecode ots id seed number body : List ℕ) (s : LevelSigning) : Type 0 where
  pub fits : IsSpelled s
  pub words : levels ∷ typecode ∷ ots ∷ id ∷ seed ∷ number ∷ body ∷ [] ≡ level_words s
