-- The trees in memory, one for each level.
use Rattle.std.specs.Prelude.{◌≡◌, ℕ, List, Some, length, slice_get}
use Rattle.signature_defs.specs.Hss.{HssSecret, tree_id, tree_number, tree_seed}
use Rattle.lms_tree.specs.declared.tree.LmsTree.{LmsTree}

-- tree t of level d of the key
pub record IsTreeOf (key : HssSecret) (d t : ℕ) (tree : LmsTree) : Type 0 where
  pub has_typecode : tree.typecode ≡ key.code
  pub has_height : tree.height ≡ key.h
  pub has_ots : tree.ots ≡ key.kind
  pub has_id : tree.id ≡ tree_id key d t
  pub has_seed : tree.seed ≡ tree_seed key d t

-- of each level the tree that signature number c uses
pub record AreTreesOf (key : HssSecret) (c : ℕ) (trees : List LmsTree) : Type 0 where
  pub count : length trees ≡ key.levels
  pub each : (d : ℕ) (tree : LmsTree) → slice_get trees d ≡ Some tree → IsTreeOf key d (tree_number key d c) tree
