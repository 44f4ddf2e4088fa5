use Rattle.std.proofs.Common.{ℕ, length-append, arith}
use Rattle.std.proofs.Math.Nat.{zero-div}
use Rattle.lms_tree.specs.declared.tree.LmsTree.{LmsTree}
use Rattle.signature_defs.specs.Hss.{tree_number}
use Rattle.lms_hss.specs.Plans.{secret}
use Rattle.lms_hss.specs.Trees.{IsTreeOf}
use Rattle.lms_hss.proofs.Lists.{each_after_push}
use Rattle.lms_hss.proofs.trees.first_trees.Goals as goal

pub loop-level-preserved : goal.loop-level-preserved
loop-level-preserved c =
    let key = secret c.args.plan.now in
    let made : LmsTree = c.in_ok-make_tree.field-0 in
    let first : ℕ → LmsTree → Type 0 = λ d tree. IsTreeOf key d (tree_number key d 0) tree in
    let new : IsTreeOf key c.loop-level.level (tree_number key c.loop-level.level 0) made = rw zero-div c.in_ok-make_tree.ensures in
    record {
      count = rw (c.in_ok-push.ensures.items, length-append) (omega arith);
      each = rw c.in_ok-push.ensures.items
          (each_after_push first c.loop-level.trees.items made c.loop-level.invariant.each (rw c.loop-level.invariant.count new));
    }
