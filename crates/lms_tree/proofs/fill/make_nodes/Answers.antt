use Rattle.std.proofs.Common.{◌≡◌, ◌∙◌, ◌*◌, ◌^◌, length, arith}
use Rattle.std.proofs.lemmas.List.{take_at}
use Rattle.std.proofs.lemmas.Nat.{shl_whole}
use Rattle.lms_tree.proofs.fill.make_nodes.Goals as goal

pub fill_nodes-requires-clause-room : goal.fill_nodes-requires-clause-room
fill_nodes-requires-clause-room c = c.deref_mut.ensures.len ∙ c.in_ok-nodes.ensures.len ∙ shl_whole 2 2 c.args.height 64 (omega arith)
    (omega arith)

pub returns : goal.returns
returns c =
    let whole : length c.fill_nodes.new.nodes ≡ c.in_ok-nodes.nodes.len = c.fill_nodes.auto.nodes ∙ c.deref_mut.ensures.len in
    rw (take_at c.fill_nodes.new.nodes _ c.in_ok-nodes.nodes.len whole) c.fill_nodes.ensures
