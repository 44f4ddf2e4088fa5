use Rattle.std.proofs.Common.{◌≡◌, ◌∙◌, ◌+◌, ◌-◌, ◌*◌, ◌%◌, ◌^◌, ◌<◌, length, length-set, arith}
use Rattle.std.proofs.lemmas.Nat.{one_shl}
use Rattle.lms_tree.specs.Tree.{HoldsFrom}
use Rattle.lms_tree.proofs.TreeShape.{inner_holds}
use Rattle.lms_tree.proofs.fill.put_inner.Goals as goal

pub loop-r-preserved : goal.loop-r-preserved
loop-r-preserved c =
    let leaves : 1 * 2 ^ c.args.height % 2 ^ 32 ≡ 2 ^ c.args.height = one_shl c.args.height 32 (omega arith) in
    let above : c.loop-r.r ≡ c.loop-r.r - 1 + 1 = omega arith in
    let before : HoldsFrom (c.loop-r.r - 1 + 1) c.args.kind c.args.height c.args.id.now c.args.seed.now c.loop-r.nodes = rw above at
    c.loop-r.invariant.holds in
    record {
      long = length-set c.loop-r.nodes (c.loop-r.r - 1) c.inner.result ∙ c.loop-r.invariant.long;
      holds = inner_holds c.args.kind c.args.height c.args.id.now c.args.seed.now c.loop-r.nodes (c.loop-r.r - 1) c.inner.result
          (omega arith) (omega arith) (omega arith) c.inner.ensures before;
    }
