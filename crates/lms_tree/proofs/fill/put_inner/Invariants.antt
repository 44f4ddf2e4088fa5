use Rattle.std.proofs.Common.{◌≡◌, length}
use Rattle.lms_tree.specs.Tree.{HoldsFrom}
use Rattle.lms_tree.proofs.fill.put_inner.Given as goal

abbrev pub invariant-loop-r : goal.invariant-loop-r
invariant-loop-r l = record {
  long : length l.nodes ≡ length l.fn.nodes;
  holds : HoldsFrom l.r l.fn.kind l.fn.height l.fn.id l.fn.seed l.nodes;
}
