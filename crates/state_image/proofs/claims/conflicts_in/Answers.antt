use Rattle.std.proofs.Common.{◌≡◌, ◌∙◌, drop, sym, ap, arith}
use Rattle.image_defs.specs.Images.{by_signer}
use Rattle.sent_claims.proofs.Walks.{drop-past}
use Rattle.state_image.proofs.claims.conflicts_in.Goals as goal

pub pairs-init : goal.pairs-init
pairs-init c =
    let count = c.len-left.ensures in
    c.in_ok-kept.ensures.items ∙ ap by_signer (sym (drop-past c.args.conflicts.now.pairs c.len-left.result (omega (arith, count))))

pub returns : goal.returns
returns c =
    let past = c.pairs-test.false in
    let none : c.pairs.left ≡ 0 = omega (arith, past) in
    c.pairs.invariant ∙ ap (λ n. by_signer (drop n c.args.conflicts.now.pairs)) none
