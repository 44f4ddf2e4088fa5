-- Questions on signatures of one tree: which there are, and what is answered.
use Rattle.std.specs.Prelude.{◌≡◌, ℕ, ◌^◌, ◌<◌, ◌≤◌, List, [], ◌∷◌, ◌++◌, Some, codes}
use Rattle.std.specs.Fmt.{decimal}
use Rattle.hex.specs.Hex.{IsBytes, encode_lower}
use Rattle.signature_defs.specs.declared.OtsType.{OtsType}
use Rattle.signature_defs.specs.LmOts.{ots_typecode}
use Rattle.signature_defs.specs.Lms.{lms_height_of, lms_public_key, lms_signature}
use Rattle.text_defs.specs.Words.{AreBytes, bytes_word}

-- A tree by its typecode, the height that this is of, the one-time parameter set, I and SEED; the leaf that signs, and what
-- is signed.
pub record TreeSigning : Type 0 where
  pub typecode : ℕ
  pub height : ℕ
  pub ots : OtsType
  pub id : List ℕ
  pub seed : List ℕ
  pub leaf : ℕ
  pub body : List ℕ

-- a tree that is built, and one of its leaves
pub record IsTreeSigning (s : TreeSigning) : Type 0 where
  pub built : (5 ≤ s.typecode) × (s.typecode ≤ 7)
  pub height : lms_height_of s.typecode ≡ Some s.height
  pub id : AreBytes 16 s.id
  pub seed : AreBytes 32 s.seed
  pub leaf : s.leaf < 2 ^ s.height
  pub body : IsBytes s.body

-- H W I SEED Q BODY
abbrev pub tree_words : TreeSigning → List (List ℕ)
tree_words s =
    decimal s.typecode ∷ decimal (ots_typecode s.ots) ∷ encode_lower s.id ∷ encode_lower s.seed ∷ decimal s.leaf ∷ bytes_word s.body ∷ []

-- `KEY SIG`: the tree's public key, and the leaf's signature
abbrev pub tree_signed : TreeSigning → List ℕ
tree_signed s =
    encode_lower (lms_public_key s.typecode s.ots s.height s.id s.seed)
    ++ (codes " " ++ encode_lower (lms_signature s.typecode s.ots s.height s.id s.seed s.leaf s.body))

-- the six words after `lms` are those of this signing
pub record TreeAskedBy (typecode ots id seed leaf body : List ℕ) (s : TreeSigning) : Type 0 where
  pub fits : IsTreeSigning s
  pub words : typecode ∷ ots ∷ id ∷ seed ∷ leaf ∷ body ∷ [] ≡ tree_words s
