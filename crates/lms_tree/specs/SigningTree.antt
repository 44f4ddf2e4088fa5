-- What the clauses on a tree that signs cite.
use Rattle.std.specs.Prelude.{◌≡◌, ℕ, List}
use Rattle.signature_defs.specs.declared.OtsType.{OtsType}
use Rattle.signature_defs.specs.Lms.{lms_public_key, lms_signature, lms_signature_length}
use Rattle.lms_tree.specs.declared.tree.LmsTree.{LmsTree}

-- the tree made from these
pub record IsMadeFrom (typecode : ℕ) (ots : OtsType) (id seed : List ℕ) (tree : LmsTree) : Type 0 where
  pub has_typecode : tree.typecode ≡ typecode
  pub has_ots : tree.ots ≡ ots
  pub has_id : tree.id ≡ id
  pub has_seed : tree.seed ≡ seed

-- of one height and one-time type
pub record SameShape (old new : LmsTree) : Type 0 where
  pub typecode : new.typecode ≡ old.typecode
  pub height : new.height ≡ old.height
  pub ots : new.ots ≡ old.ots

-- its public key, by the RFC
abbrev pub public_of : LmsTree → List ℕ
public_of tree = lms_public_key tree.typecode tree.ots tree.height tree.id tree.seed

-- its one signature with leaf q
abbrev pub signature_of : LmsTree → ℕ → List ℕ → List ℕ
signature_of tree q body = lms_signature tree.typecode tree.ots tree.height tree.id tree.seed q body

-- the length of each
abbrev pub length_of : LmsTree → ℕ
length_of tree = lms_signature_length tree.ots tree.height
