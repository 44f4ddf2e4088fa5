use Rattle.std.proofs.Common.{◌≡◌, ◌∙◌, ℕ, ◌+◌, ◌-◌, ◌*◌, ◌%◌, ◌^◌, ◌<◌, length, refl, arith}
use Rattle.std.proofs.lemmas.Nat.{one_shl}
use Rattle.signature_defs.specs.Lms.{node}
use Rattle.signature_defs.proofs.TreeLaws.{leaf_node}
use Rattle.lms_tree.proofs.TreeShape.{leaves_hold, one_more}
use Rattle.lms_tree.proofs.fill.put_leaves.Goals as goal

pub loop-q-preserved : goal.loop-q-preserved
loop-q-preserved c =
    let leaves : 1 * 2 ^ c.args.height % 2 ^ 32 ≡ 2 ^ c.args.height = one_shl c.args.height 32 (omega arith) in
    let number : 2 ^ c.args.height + c.loop-q.q - 2 ^ c.args.height ≡ c.loop-q.q = omega arith in
    let next : 2 ^ c.args.height + (c.loop-q.q + 1) ≡ 2 ^ c.args.height + c.loop-q.q + 1 = omega arith in
    rw (leaves, next)
    (one_more c.loop-q.nodes (2 ^ c.args.height)
    (2 ^ c.args.height + c.loop-q.q) c.leaf.result (node c.args.kind c.args.height c.args.id.now c.args.seed.now 0)
    (omega arith)
    (c.leaf.ensures ∙ rw (leaves, c.ots_public.ensures, ← leaf_node, number) refl)
    c.loop-q.invariant)

pub returns : goal.returns
returns c =
    let leaves : 1 * 2 ^ c.args.height % 2 ^ 32 ≡ 2 ^ c.args.height = one_shl c.args.height 32 (omega arith) in
    let all : c.loop-q.q ≡ 2 ^ c.args.height = omega arith in
    leaves_hold c.args.kind c.args.height c.args.id.now c.args.seed.now c.loop-q.nodes (rw all at c.loop-q.invariant)
