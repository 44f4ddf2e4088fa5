use Rattle.std.proofs.Common.{◌≡◌, ◌<◌, ◌≤◌, ◌+◌, ℕ, length, refl, arith}
use Rattle.std.proofs.lemmas.Option.{slice_get_read, slice_get_within}
use Rattle.lms_tree.specs.declared.tree.LmsTree.{LmsTree}
use Rattle.signature_defs.specs.Hss.{tree_number}
use Rattle.lms_hss.specs.Plans.{secret}
use Rattle.lms_hss.specs.Trees.{IsTreeOf}
use Rattle.lms_hss.proofs.Lists.{each_after_set}
use Rattle.lms_hss.proofs.trees.renew_trees.Goals as goal

pub renew_tree-requires-clause-stands : goal.renew_tree-requires-clause-stands
renew_tree-requires-clause-stands c =
    let trees = c.loop-level.trees in
    let d : ℕ = c.loop-level.level in
    let within : d < length trees = omega arith in
    let read = slice_get_read trees (length trees) d c.index-trees-level.result refl within c.index-trees-level.is in
    rw (← c.index-trees-level.is) (c.loop-level.invariant.left d c.index-trees-level.result read (omega arith))

pub loop-level-preserved : goal.loop-level-preserved
loop-level-preserved c =
    let key = secret c.args.plan.now in
    let trees = c.loop-level.trees in
    let at : ℕ = c.loop-level.level in
    let to : ℕ → LmsTree → Type 0 = λ d tree. d < at + 1 → IsTreeOf key d (tree_number key d c.args.to) tree in
    let from : ℕ → LmsTree → Type 0 = λ d tree. at + 1 ≤ d → IsTreeOf key d (tree_number key d c.args.from) tree in
    record {
      renewed = each_after_set to trees at c.renew_tree.new.tree (λ d tree is ne lt. c.loop-level.invariant.renewed d tree is (omega arith))
          (λ lt. c.renew_tree.ensures);
      left = each_after_set from trees at c.renew_tree.new.tree (λ d tree is ne le. c.loop-level.invariant.left d tree is (omega arith))
          (λ le. absurd (omega arith));
    }

pub returns : goal.returns
returns c =
    let count : length c.loop-level.trees ≡ c.args.plan.now.levels = omega arith in
    record {
      count = count;
      each = λ d tree is. c.loop-level.invariant.renewed d tree is (omega (arith, slice_get_within c.loop-level.trees d tree is, count));
    }
