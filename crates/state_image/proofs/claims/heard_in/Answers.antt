use Rattle.std.proofs.Common.{◌++◌, ap, arith}
use Rattle.message_defs.specs.Spelling.{IsClaim}
use Rattle.state_image.proofs.Walks.{all-rest, at-end, one-more}
use Rattle.state_image.proofs.claims.heard_in.Goals as goal

pub claims-init : goal.claims-init
claims-init c = (c.requires, ap (λ ys. ys ++ c.args.pool.now.pool.heard) c.in_ok-kept.ensures.items)

pub keep_heard-requires : goal.keep_heard-requires
keep_heard-requires c = c.claims.invariant.0

pub claims-preserved : goal.claims-preserved
claims-preserved c =
    let heard = c.args.pool.now.pool.heard in (
      all-rest heard c.claims.place IsClaim c.claims.invariant.0,
      one-more heard c.claims.place c.claims.kept.items c.keep_heard.new.kept.items heard c.in_ok-keep_heard.ensures c.claims.invariant.1,
    )

pub returns : goal.returns
returns c =
    let heard = c.args.pool.now.pool.heard in
    let count = c.size-count.ensures.claims in
    at-end heard c.claims.place c.claims.kept.items heard (omega (arith, count)) c.claims.invariant.1
