use Rattle.std.proofs.Common.{◌≡◌, ◌∙◌, ◌+◌, ◌++◌, List, ℕ, length, length-append, replicate, refl, arith}
use Rattle.signature_defs.specs.Strings.{u32str}
use Rattle.signature_defs.specs.LmOts.{ots_typecode}
use Rattle.lms_ots.proofs.Pieces.{four_pieces}
use Rattle.lms_tree.proofs.tree.public_of.Goals as goal

pub returns : goal.returns
returns c =
    let code : List ℕ = u32str c.args.typecode in
    let kind : List ℕ = u32str (ots_typecode c.args.ots) in
    let one : c.copy_from_slice.new.self ≡ code = c.copy_from_slice.ensures.after ∙ c.to_be_bytes.ensures in
    let two : c.copy_from_slice-2.new.self
    ≡ kind = c.copy_from_slice-2.ensures.after ∙ c.to_be_bytes-2.ensures ∙ rw c.ots_typecode.ensures refl in
    let front : length (code ++ kind ++ c.args.id.now) ≡ 24 = omega (arith, length-append (code ++ kind) c.args.id.now) in
    rw (one, two, c.copy_from_slice-3.ensures.after, c.copy_from_slice-4.ensures.after)
    (four_pieces code kind c.args.id.now c.args.root.now (replicate 52 0) 4 8 24 4 16 32 refl refl front refl)
