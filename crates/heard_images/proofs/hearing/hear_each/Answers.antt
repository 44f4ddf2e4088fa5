use Rattle.std.proofs.Common.{◌∙◌, [], ◌∷◌, sym, ap}
use Rattle.group_defs.specs.Process.{Pool}
use Rattle.group_defs.specs.Hearing.{with_heard}
use Rattle.member_events.specs.Below.{claim as claim_of}
use Rattle.heard_images.specs.Hearing.{with_more}
use Rattle.heard_images.proofs.Each.{delivered-more, new-more, new-whole, none-more, pool-more, pool-whole}
use Rattle.heard_images.proofs.hearing.hear_each.Goals as goal

pub loop-kept-preserved : goal.loop-kept-preserved
loop-kept-preserved g c =
    let claim = claim_of c.claim-claim.result in
    let grown = c.in_ok-is_new.ensures.heard c.if-not-is_new.false in (
      pool-more c.loop-kept.pool.pool c.args.pool.now.pool c.hear_one.new.pool.pool c.args.claims.now c.loop-kept.kept-index
          c.kept-item.result claim c.loop-kept-test.true c.kept-item.is c.claim-claim.ensures.value c.loop-kept.invariant.0 grown,
      λ s p shares has same.
          let so = c.loop-kept.invariant.1 s p shares has same in
          let heard = (c.in_ok-is_new.ensures.new s so.0 shares so.2 so.1).0 c.if-not-is_new.false in (
            with_heard so.0 claim,
            ap (λ (h : Pool). with_more h (claim ∷ [])) so.1 ∙ sym grown,
            delivered-more so.0 claim c.args.own.now so.2,
            new-more s so.0 c.args.claims.now c.loop-kept.kept-index _ so.3 c.kept-item.result claim c.loop-kept-test.true
                c.kept-item.is c.claim-claim.ensures.value heard,
          ),
    )

pub returns-then-not-is_new-clause-new : goal.returns-then-not-is_new-clause-new
returns-then-not-is_new-clause-new g c s p shares has same =
    let so = c.loop-kept.invariant.1 s p shares has same in
    none-more s so.0 c.args.claims.now c.loop-kept.kept-index _ so.3 c.kept-item.result (claim_of c.claim-claim.result) c.loop-kept-test.true
    c.kept-item.is c.claim-claim.ensures.value c.in_ok-is_new.is_new c.if-not-is_new.true (c.in_ok-is_new.ensures.new s so.0 shares so.2 so.1)

pub returns-clause-new : goal.returns-clause-new
returns-clause-new g c s p shares has same =
    let so = c.loop-kept.invariant.1 s p shares has same in
    new-whole s so.0 c.args.claims.now c.loop-kept.kept-index _ so.3 c.loop-kept-test.false

pub returns-clause-heard : goal.returns-clause-heard
returns-clause-heard g c ok =
    pool-whole c.loop-kept.pool.pool c.args.pool.now.pool c.args.claims.now c.loop-kept.kept-index c.loop-kept-test.false
    c.loop-kept.invariant.0
