use Rattle.std.proofs.Common.{◌≡◌, ◌∙◌, sym, ap, arith}
use Rattle.std.specs.Prelude.{option_and_then}
use Rattle.group_defs.specs.Certified.{claim_on}
use Rattle.stmt_codec.specs.Views.{claim as claim_of, slot}
use Rattle.claim_hearing.proofs.Heard.{heard-short}
use Rattle.claim_hearing.proofs.hearing.keep_conflict.Goals as goal

pub returns-then-heard-clause-kept : goal.returns-then-heard-clause-kept
returns-then-heard-clause-kept c p pool same pairs =
    let at = ap (λ k. slot k c.slot_of-slot.result) c.kind-kind.ensures ∙ c.slot_of-slot.ensures in
    let there = sym (c.in-Some.ensures.value ∙ ap (option_and_then (claim_on c.args.pool.now.pool.heard c.args.claim.now.signer)) at) in
    let short = heard-short c.args.pool.now.pool pool c.args.claim.now.signer (claim_of c.args.claim.now)
    (claim_of c.in-Some.heard) there in
    absurd (omega (arith, short, c.if-heard.true))
