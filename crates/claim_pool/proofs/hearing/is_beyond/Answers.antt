use Rattle.std.proofs.Common.{◌≡◌, ◌+◌, ◌∙◌, ap, subst, true}
use Rattle.std.specs.Prelude.{nat_le}
use Rattle.group_defs.specs.Views.{View, is_member}
use Rattle.group_defs.specs.Due.{window}
use Rattle.message_defs.specs.Statements.{Message}
use Rattle.stmt_codec.specs.Views.{claim}
use Rattle.claim_pool.proofs.Judged.{count-is, signer-member, sender-member}
use Rattle.claim_pool.proofs.hearing.is_beyond.Goals as goal

pub returns-in-Init : goal.returns-in-Init
returns-in-Init c p has same not =
    let member : is_member c.args.view.now c.args.claim.now.signer
    ≡ true = subst (λ (v : View). is_member v c.args.claim.now.signer ≡ true) same (signer-member p (claim c.args.claim.now) not) in
    rw c.in-Init.is (c.is_ahead.ensures ∙ ap (λ n. nat_le (n + window) c.in-Init.number)
    (c.count_of.ensures ∙ count-is c.args.own.now p c.args.view.now has same c.args.claim.now.signer member))

pub returns-in-Echo : goal.returns-in-Echo
returns-in-Echo c p has same not =
    let named : Message = record { sender = c.in-Echo.sender; number = c.in-Echo.number } in
    let member : is_member c.args.view.now c.in-Echo.sender
    ≡ true = subst (λ (v : View). is_member v c.in-Echo.sender ≡ true) same
    (sender-member p c.args.claim.now.signer c.in-Echo.view named c.in-Echo.payload.now c.args.claim.now.signature.now
    (rw c.in-Echo.is at not)) in
    rw c.in-Echo.is (c.is_ahead-in-Echo.ensures ∙ ap (λ n. nat_le (n + window) c.in-Echo.number)
    (c.count_of-in-Echo.ensures ∙ count-is c.args.own.now p c.args.view.now has same c.in-Echo.sender member))
