use Rattle.std.proofs.Common.{◌≡◌, ◌∙◌, ℕ, suc, ◌+◌, ◌-◌, ◌*◌, ◌/◌, ◌%◌, ◌^◌, ◌≤◌, [], length, refl, sym, arith}
use Rattle.std.proofs.Math.Nat.{div-one}
use Rattle.std.proofs.lemmas.Nat.{one_shl}
use Rattle.std.proofs.lemmas.List.{get_or_default}
use Rattle.std.proofs.lemmas.Slice.{take-put_mid}
use borrow.Rule.Slice.PartMut.{mid_len}
use Rattle.signature_defs.specs.Lms.{path_node, sibling}
use Rattle.signature_defs.proofs.StringLaws.{strings_more, strings_none}
use Rattle.signature_defs.proofs.TreeLaws.{halved_again}
use Rattle.lms_tree.proofs.Siblings.{path_stands}
use Rattle.lms_tree.proofs.tree.LmsTree.write_path.Goals as goal

pub loop-i-init : goal.loop-i-init
loop-i-init c =
    let leaves : 1 * 2 ^ c.args.self.now.height % 2 ^ 32 ≡ 2 ^ c.args.self.now.height = one_shl c.args.self.now.height 32 (omega arith) in
    record { node = rw (leaves, div-one) refl; written = sym (strings_none _) }

pub loop-i-preserved : goal.loop-i-preserved
loop-i-preserved c =
    let key = c.args.self.now in
    let beside : ℕ = sibling ((2 ^ key.height + c.args.q) / 2 ^ c.loop-i.i) in
    let number : c.sibling.result ≡ beside = c.sibling.ensures ∙ rw c.loop-i.invariant.node refl in
    let stands = path_stands key.ots key.height key.id key.seed key.nodes.items c.args.q c.loop-i.i key.tree c.requires.leaf
    c.loop-i-test.true in
    let here : c.copy_from_slice.new.self ≡ path_node key.ots key.height key.id key.seed c.args.q c.loop-i.i =
    c.copy_from_slice.ensures.after ∙ c.index.ensures ∙ rw number
    (get_or_default key.nodes.items beside c.index.result.now [] stands.0 ∙ stands.1) in
    let fits : 32 * c.loop-i.i + 32 ≤ length c.loop-i.out = omega arith in
    let long : length c.copy_from_slice.new.self ≡ 32 * c.loop-i.i + 32 - 32 * c.loop-i.i =
    c.copy_from_slice.ensures.len ∙ mid_len (32 * c.loop-i.i) (32 * c.loop-i.i + 32) c.loop-i.out fits in
    record {
      node = rw c.loop-i.invariant.node (halved_again (2 ^ key.height + c.args.q) c.loop-i.i);
      written =
          take-put_mid (32 * c.loop-i.i) _ c.loop-i.out c.copy_from_slice.new.self (32 * (c.loop-i.i + 1)) (omega arith) (omega arith)
          ∙ rw (c.loop-i.invariant.written, here) (sym (strings_more _ c.loop-i.i));
    }
