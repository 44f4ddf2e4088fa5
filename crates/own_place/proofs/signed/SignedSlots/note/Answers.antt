use Rattle.std.proofs.Common.{◌∙◌, ap}
use Rattle.message_defs.specs.Statements.{slot_of}
use Rattle.claim_index.specs.Statements.{stmt}
use Rattle.own_place.specs.Signed.{Signed}
use Rattle.own_place.proofs.Noted.{noted-last}
use Rattle.own_place.proofs.signed.SignedSlots.note.Goals as goal

pub returns-clause-slots : goal.returns-clause-slots
returns-clause-slots c =
    c.in-Ok.ensures.keys ∙ noted-last c.self.inside.keys.keys c.args.self.now.slots c.slot_key_of-key.result
    (slot_of (stmt c.args.statement.now)) (ap (λ (d : Signed). d.slots) c.self.view_is) c.slot_key_of-key.ensures c.requires.fresh
