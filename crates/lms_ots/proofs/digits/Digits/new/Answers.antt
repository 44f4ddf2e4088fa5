use Rattle.std.proofs.Common.{◌∙◌, ◌∷◌, [], refl, arith}
use Rattle.lms_ots.proofs.Pieces.{two_pieces}
use Rattle.lms_ots.proofs.digits.Digits.new.Goals as goal

pub returns : goal.returns
returns c =
    two_pieces c.args.hash.now _ (0 ∷ 0 ∷ []) _ _ 32 2 (omega arith) refl c.copy_from_slice.ensures.after
    (c.copy_from_slice-2.ensures.after ∙ c.checksum.ensures)
