use Rattle.std.proofs.Common.{◌≡◌, ◌∙◌, length, ap, arith}
use Rattle.message_defs.specs.Spelling.{spelling}
use Rattle.member_events.specs.Below.{claim, stmt}
use Rattle.snapshot_rp.proofs.Kept.{spelling_is_read, kept_so}
use Rattle.snapshot_rp.proofs.claim.KeptClaim.new.Goals as goal

pub invariant_of-result : goal.invariant_of-result
invariant_of-result c =
    let st = stmt c.args.claim.now.statement in
    let said : c.in_ok-statement.statement.items ≡ spelling st =
    c.in_ok-statement.ensures.items_if_clones_equal (λ x y e. e) ∙ c.spell_into-len.ensures.spelled in
    let signed : c.in_ok-signature.signature.items ≡ c.args.claim.now.signature.now =
    c.in_ok-signature.ensures.items_if_clones_equal (λ x y e. e) in
    (spelling_is_read st _ c.requires.1 said, omega (arith, ap length signed, c.requires.2))

pub returns : goal.returns
returns c = kept_so (claim c.args.claim.now) c.in_ok-statement.statement.items c.in_ok-signature.signature.items c.requires.1
    (c.in_ok-statement.ensures.items_if_clones_equal (λ x y e. e) ∙ c.spell_into-len.ensures.spelled)
    (c.in_ok-signature.ensures.items_if_clones_equal (λ x y e. e))
