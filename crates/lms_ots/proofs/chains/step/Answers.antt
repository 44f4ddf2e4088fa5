use Rattle.std.proofs.Common.{◌∙◌, ap, refl, arith}
use Rattle.sha2.specs.Sha256.{sha256}
use Rattle.lms_ots.proofs.Pieces.{byte_and_piece}
use Rattle.lms_ots.proofs.chains.step.Goals as goal

pub returns-clause-value : goal.returns-clause-value
returns-clause-value c =
    let whole = byte_and_piece c.args.block.now c.args.value.now 22 23 32 c.args.j refl (omega arith) in
    c.digest.ensures ∙ ap sha256 (c.as_slice.ensures ∙ rw c.copy_from_slice.ensures.after whole)
