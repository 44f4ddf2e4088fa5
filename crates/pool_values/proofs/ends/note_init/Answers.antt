use Rattle.std.proofs.Common.{◌≡◌, ◌<◌, ◌+◌, sym, ap, ◌∙◌, subst}
use Rattle.std.specs.Prelude.{max, slice_index, slice_set}
use Rattle.slot_quorums.specs.Statements.{claim}
use Rattle.slot_quorums.specs.Claims.{with_heard}
use Rattle.pool_values.specs.Ends.{AreInitsEnds}
use Rattle.pool_values.proofs.Ended.{one-heard, none-more}
use Rattle.pool_values.proofs.ends.note_init.Goals as goal

pub returns-in-Some : goal.returns-in-Some
returns-in-Some c h view fresh are =
    let signer : c.get-signer.result ≡ c.args.claim.now.signer = c.get-signer.ensures.value in
    let within : c.args.claim.now.signer < 64 = subst (λ q. q < 64) signer c.get-signer.ensures.below in
    let end : c.max.result ≡ max (slice_index c.args.ends.now c.args.claim.now.signer)
    (c.in-Some.number + 1) = c.max.ensures ∙ ap (λ q. max (slice_index c.args.ends.now q) (c.in-Some.number + 1)) signer in
    subst (AreInitsEnds (with_heard h (claim c.args.claim.now))) (λ i. slice_set c.args.ends.now (sym signer i) (sym end i))
    (one-heard h (claim c.args.claim.now) fresh c.args.ends.now c.args.view c.in-Some.number view
    (sym c.in-Some.ensures) c.requires within are)

pub returns-in_default : goal.returns-in_default
returns-in_default c h view fresh are = none-more h (claim c.args.claim.now) fresh c.args.ends.now c.args.view view
    (sym c.init_said.ensures ∙ c.in_default.is) are
