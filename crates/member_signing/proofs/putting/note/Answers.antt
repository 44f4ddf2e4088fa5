use Rattle.member_signing.proofs.States.{tells-roomier}
use Rattle.member_signing.proofs.putting.note.Goals as goal

pub returns-clause-noted : goal.returns-clause-noted
returns-clause-noted c s signer p g h tells view may at = c.note_signed.ensures.tells s signer p g h
    (tells-roomier s p g c.args.own.now c.reserve.new.self c.reserve.ensures.same tells) view may at
