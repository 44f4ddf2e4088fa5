use Rattle.std.proofs.Common.{◌∙◌, ap}
use Rattle.std.specs.Prelude.{option_and_then}
use Rattle.group_defs.specs.Certified as defs
use Rattle.stmt_codec.specs.Views.{slot}
use Rattle.claim_index.specs.Kept.{Holding}
use Rattle.claim_index.proofs.Found.{claim_about, key_about}
use Rattle.claim_index.proofs.index.ClaimIndex.heard_claim.Goals as goal

pub returns-clause-value : goal.returns-clause-value
returns-clause-value c =
    rw c.deref.ensures.value at c.claim_under.ensures.value
    ∙ claim_about c.self.inside.bytes.items c.self.inside.kept.entries c.self.invariant.now.kept c.args.signer
    (slot c.args.kind c.args.about.now) c.new-key.result
    (key_about c.args.signer c.new-key.result c.in_ok-slot_key_at.field-0
    (slot c.args.kind c.args.about.now) c.new-key.ensures c.in_ok-slot_key_at.ensures)
    ∙ ap (λ (r : Holding). option_and_then (defs.claim_on r.pool.heard c.args.signer) (slot c.args.kind c.args.about.now)) c.self.view_is
