-- What a tree of a key says and signs.
use Rattle.std.proofs.Common.{◌≡◌, ℕ, ◌<◌, List, length, get_or, refl, arith}
use Rattle.std.proofs.lemmas.Option.{slice_get_read}
use Rattle.signature_defs.specs.Lms.{lms_signature}
use Rattle.signature_defs.specs.Hss.{HssSecret, tree_id, tree_key, tree_number, tree_seed}
use Rattle.lms_tree.specs.declared.tree.LmsTree.{LmsTree}
use Rattle.lms_tree.specs.SigningTree.{public_of, signature_of}
use Rattle.lms_hss.specs.Trees.{AreTreesOf, IsTreeOf}

pub tree_public : (key : HssSecret) (d t : ℕ) (tree : LmsTree) → IsTreeOf key d t tree → public_of tree ≡ tree_key key d t
tree_public key d t tree is = rw (is.has_typecode, is.has_height, is.has_ots, is.has_id, is.has_seed) refl

pub tree_signature : (key : HssSecret) (d t : ℕ) (tree : LmsTree) (q : ℕ) (text : List ℕ) → IsTreeOf key d t tree
    → signature_of tree q text ≡ lms_signature key.code key.kind key.h (tree_id key d t) (tree_seed key d t) q text
tree_signature key d t tree q text is = rw (is.has_typecode, is.has_height, is.has_ots, is.has_id, is.has_seed) refl

-- the tree that stands at a level
pub tree_at : (key : HssSecret) (c d : ℕ) (trees : List LmsTree) (tree : LmsTree) → AreTreesOf key c trees → d < key.levels
    → tree ≡ get_or trees d tree
    → IsTreeOf key d (tree_number key d c) tree
tree_at key c d trees tree are lt read =
    let within : d < length trees = omega (arith, are.count) in
    are.each d tree (slice_get_read trees (length trees) d tree refl within read)
