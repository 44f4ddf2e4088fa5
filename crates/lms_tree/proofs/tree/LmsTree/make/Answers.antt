use Rattle.std.proofs.Common.{◌≡◌, ◌∙◌, ℕ, ◌+◌, ◌<◌, [], get_or, length, arith, lit<, lit≤}
use Rattle.std.proofs.lemmas.List.{get_or_default}
use Rattle.std.proofs.lemmas.Nat.{pow_pos}
use Rattle.signature_defs.specs.Lms.{node}
use Rattle.lms_tree.proofs.tree.LmsTree.make.Goals as goal

pub invariant_of-result-clause-key : goal.invariant_of-result-clause-key
invariant_of-result-clause-key c =
    let h : ℕ = c.in-Some.height in
    let tree = c.in_ok-nodes.ensures in
    let some : 1 < length c.in_ok-nodes.nodes.items = omega (arith, tree.count, pow_pos h) in
    let root : c.index.result.now ≡ node c.args.ots h c.args.id c.args.seed h 1 =
    c.index.ensures ∙ get_or_default c.in_ok-nodes.nodes.items 1 c.index.result.now [] some
    ∙ tree.holds 0 h 1 (omega arith) (lit≤ tt) (lit≤ tt) (lit< tt) in
    c.public_of-public.ensures ∙ rw root
