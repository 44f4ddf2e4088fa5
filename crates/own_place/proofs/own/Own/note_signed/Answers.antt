use Rattle.claim_index.specs.Statements.{stmt}
use Rattle.own_place.proofs.Telling.{tells-now}
use Rattle.own_place.proofs.own.Own.note_signed.Goals as goal

pub returns-clause-tells : goal.returns-clause-tells
returns-clause-tells c s signer p g h tells same may at = tells-now s signer p
    (stmt c.args.statement.now) c.args.self.now c.note.new.self may g h c.args.view.now tells same at c.note.ensures.noted
