use Rattle.std.proofs.Common.{◌≡◌, ℕ, Some, length}
use Rattle.std.specs.List.{slice_get}
use Rattle.signature_defs.specs.Hss.{tree_number}
use Rattle.lms_tree.specs.declared.tree.LmsTree.{LmsTree}
use Rattle.lms_hss.specs.Plans.{secret}
use Rattle.lms_hss.specs.Trees.{IsTreeOf}
use Rattle.lms_hss.proofs.trees.first_trees.Given as goal

abbrev pub invariant-loop-level : goal.invariant-loop-level
invariant-loop-level l = record {
  count : length l.trees.items ≡ l.level;
  each : (d : ℕ) (tree : LmsTree) → slice_get l.trees.items d ≡ Some tree
      → IsTreeOf (secret l.plan) d (tree_number (secret l.plan) d 0) tree;
}
