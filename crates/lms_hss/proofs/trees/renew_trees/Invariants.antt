use Rattle.std.proofs.Common.{◌≡◌, ◌<◌, ◌≤◌, ℕ, Some}
use Rattle.std.specs.List.{slice_get}
use Rattle.signature_defs.specs.Hss.{tree_number}
use Rattle.lms_tree.specs.declared.tree.LmsTree.{LmsTree}
use Rattle.lms_hss.specs.Plans.{secret}
use Rattle.lms_hss.specs.Trees.{IsTreeOf}
use Rattle.lms_hss.proofs.trees.renew_trees.Given as goal

abbrev pub invariant-loop-level : goal.invariant-loop-level
invariant-loop-level l = record {
  renewed : (d : ℕ) (tree : LmsTree) → slice_get l.trees d ≡ Some tree → d < l.level
      → IsTreeOf (secret l.plan) d (tree_number (secret l.plan) d l.to) tree;
  left : (d : ℕ) (tree : LmsTree) → slice_get l.trees d ≡ Some tree → l.level ≤ d
      → IsTreeOf (secret l.plan) d (tree_number (secret l.plan) d l.from) tree;
}
