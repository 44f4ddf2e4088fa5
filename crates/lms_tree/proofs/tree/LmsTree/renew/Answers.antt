use Rattle.std.proofs.Common.{◌≡◌, ◌∙◌, ◌<◌, [], get_or, length, arith, lit<, lit≤}
use Rattle.std.proofs.lemmas.List.{get_or_default, take_at}
use Rattle.std.proofs.lemmas.Nat.{pow_pos}
use Rattle.signature_defs.specs.Lms.{node}
use Rattle.lms_tree.proofs.tree.LmsTree.renew.Goals as goal

pub invariant_of-self-clause-tree : goal.invariant_of-self-clause-tree
invariant_of-self-clause-tree c =
    let whole : length c.fill_nodes.new.nodes ≡ c.args.self.now.nodes.len = c.fill_nodes.auto.nodes ∙ c.deref_mut.ensures.len in
    rw (take_at c.fill_nodes.new.nodes _ c.args.self.now.nodes.len whole) c.fill_nodes.ensures

pub invariant_of-self-clause-key : goal.invariant_of-self-clause-key
invariant_of-self-clause-key c =
    let old = c.args.self.now in
    let nodes = c.fill_nodes.new.nodes in
    let whole : length nodes ≡ old.nodes.len = c.fill_nodes.auto.nodes ∙ c.deref_mut.ensures.len in
    let tree = c.fill_nodes.ensures in
    let some : 1 < length nodes = omega (arith, tree.count, pow_pos old.height) in
    let at = rw (take_at nodes _ old.nodes.len whole) at c.index.ensures in
    let root : c.index.result.now ≡ node old.ots old.height c.args.id c.args.seed old.height 1 =
    at ∙ get_or_default nodes 1 c.index.result.now [] some
    ∙ tree.holds 0 old.height 1 (omega arith) (lit≤ tt) (lit≤ tt) (lit< tt) in
    c.public_of-self.ensures ∙ rw root
