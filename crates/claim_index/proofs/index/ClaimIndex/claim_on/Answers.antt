use Rattle.std.proofs.Common.{◌≡◌, ◌∙◌, ap}
use Rattle.std.specs.Option.{option_map}
use Rattle.std.specs.Map.{lookup}
use Rattle.message_defs.specs.Statements as plain
use Rattle.group_defs.specs.Certified as defs
use Rattle.stmt_codec.specs.Views.{stmt}
use Rattle.claim_index.specs.declared.key.Key.{Key}
use Rattle.claim_index.specs.Keys.{key_of, same_key}
use Rattle.claim_index.specs.Kept.{Holding, claim_with}
use Rattle.claim_index.proofs.Found.{lookup_is_claim}
use Rattle.claim_index.proofs.index.ClaimIndex.claim_on.Goals as goal

pub returns : goal.returns
returns c =
    let key : c.new-key.result ≡ key_of c.args.signer (plain.slot_of (stmt c.args.statement.now)) = c.new-key.ensures ∙
    (λ i. record { signer = c.args.signer; slot = c.slot_key_of.ensures i }) in
    rw c.deref.ensures.value at c.claim_under.ensures.value
    ∙ ap (λ (k : Key). option_map (claim_with c.self.inside.bytes.items c.args.signer) (lookup (same_key k) c.self.inside.kept.entries)) key
    ∙ lookup_is_claim c.self.inside.bytes.items c.self.inside.kept.entries c.self.invariant.now.kept c.args.signer
    (plain.slot_of (stmt c.args.statement.now))
    ∙ ap (λ (r : Holding). defs.claim_on r.pool.heard c.args.signer (plain.slot_of (stmt c.args.statement.now))) c.self.view_is
