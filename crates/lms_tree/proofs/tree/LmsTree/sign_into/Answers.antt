use Rattle.std.proofs.Common.{◌≡◌, ◌∙◌, ℕ, ◌+◌, ◌-◌, ◌*◌, List, length, drop, length-drop, refl, sym, arith}
use Rattle.signature_defs.specs.Strings.{u32str, strings}
use Rattle.signature_defs.specs.LmOts.{ots_signature, ots_signature_length}
use Rattle.signature_defs.specs.Lms.{path_node}
use Rattle.signature_defs.proofs.OtsLaws.{length-ots_signature}
use Rattle.signature_defs.proofs.StringLaws.{length-strings}
use Rattle.signature_defs.proofs.TreeLaws.{length-node}
use Rattle.lms_ots.proofs.Pieces.{four_written}
use Rattle.lms_tree.proofs.tree.LmsTree.sign_into.Goals as goal

pub returns : goal.returns
returns c =
    let key = c.args.self.now in
    let leaf : List ℕ = u32str c.args.q in
    let signed : List ℕ = ots_signature key.ots key.id c.args.q key.seed c.args.body.now in
    let code : List ℕ = u32str key.typecode in
    let path : List ℕ = strings (path_node key.ots key.height key.id key.seed c.args.q) key.height in
    let n : ℕ = c.ots_signature_length-ots.result in
    let one : c.copy_from_slice.new.self ≡ leaf = c.copy_from_slice.ensures.after ∙ c.to_be_bytes.ensures in
    let two : c.copy_from_slice-2.new.self ≡ code = c.copy_from_slice-2.ensures.after ∙ c.to_be_bytes-2.ensures in
    let middle = length-ots_signature key.ots key.id c.args.q key.seed c.args.body.now in
    let nodes = length-strings (path_node key.ots key.height key.id key.seed c.args.q) key.height 32
    (λ i. length-node key.ots key.height key.id key.seed i _) in
    four_written leaf signed code path (drop 4 c.args.out.now) _ _ _ _ 4 (4 + n) (4 + n + 4) (4 + n - 4) (4 + n + 4 - (4 + n))
    one c.ots_sign_into.ensures.written two c.write_path.ensures
    refl (omega (arith, middle)) (omega arith) (omega arith) (omega arith)
    (length-drop 4 c.args.out.now ∙ omega (arith, nodes))
