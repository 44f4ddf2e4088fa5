-- What the clauses on a key cite.
use Rattle.std.specs.Prelude.{◌≡◌, ℕ, List}
use Rattle.signature_defs.specs.declared.OtsType.{OtsType}
use Rattle.lms_tree.specs.SigningTree as trees
use Rattle.lms_tree.specs.declared.key.LmsKey.{LmsKey}

-- the key made from these; no leaf has signed
pub record IsMadeFrom (typecode : ℕ) (ots : OtsType) (id seed : List ℕ) (key : LmsKey) : Type 0 where
  pub tree : trees.IsMadeFrom typecode ots id seed key.tree
  pub unused : key.used ≡ 0

-- its public key, by the RFC
abbrev pub public_of : LmsKey → List ℕ
public_of key = trees.public_of key.tree

-- its one signature with leaf q
abbrev pub signature_of : LmsKey → ℕ → List ℕ → List ℕ
signature_of key q body = trees.signature_of key.tree q body

abbrev pub length_of : LmsKey → ℕ
length_of key = trees.length_of key.tree
