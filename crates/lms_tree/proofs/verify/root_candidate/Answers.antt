use Rattle.std.proofs.Common.{◌≡◌, ◌∙◌, ℕ, ◌+◌, ◌-◌, ◌*◌, ◌%◌, ◌^◌, List, refl, arith}
use Rattle.std.proofs.Math.Nat.{div-one}
use Rattle.std.proofs.lemmas.Nat.{one_shl}
use Rattle.signature_defs.specs.Strings.{part}
use Rattle.signature_defs.specs.LmOts.{ots_signature_length}
use Rattle.signature_defs.specs.Lms.{leaf}
use Rattle.signature_defs.proofs.TreeLaws.{climbed_more, climbed_none, halved_again}
use Rattle.lms_tree.proofs.verify.root_candidate.Goals as goal

pub loop-i-init : goal.loop-i-init
loop-i-init c =
    let leaves : 1 * 2 ^ c.args.height % 2 ^ 32 ≡ 2 ^ c.args.height = one_shl c.args.height 32 (omega arith) in
    record {
      node = rw (leaves, div-one) refl;
      value = c.leaf-value.ensures ∙ rw (leaves, climbed_none) refl;
    }

pub loop-i-preserved : goal.loop-i-preserved
loop-i-preserved c =
    let r : ℕ = 2 ^ c.args.height + c.args.q in
    let width : 8 + c.ots_signature_length-path.result + 32 * c.loop-i.i + 32 - (8 + c.ots_signature_length-path.result + 32 * c.loop-i.i)
    ≡ 32 = omega arith in
    let path : ℕ → List ℕ = λ i. part (8 + ots_signature_length c.args.kind + 32 * i) 32 c.args.sig.now in
    record {
      node = rw c.loop-i.invariant.node (halved_again r c.loop-i.i);
      value = c.parent-value.ensures ∙ rw (width, c.ots_signature_length-path.ensures, c.loop-i.invariant.node, c.loop-i.invariant.value)
          (climbed_more c.args.id.now r (leaf c.args.id.now r c.args.key.now) path c.loop-i.i);
    }
