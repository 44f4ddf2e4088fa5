use Rattle.std.proofs.Common.{refl, arith}
use Rattle.message_defs.specs.Spelling.{IsClaim}
use Rattle.state_image.proofs.Walks.{all-rest, at-end, one-more}
use Rattle.state_image.proofs.signed.keep_from.Goals as goal

pub claims-init : goal.claims-init
claims-init c = (c.requires, refl)

pub keep_at-requires : goal.keep_at-requires
keep_at-requires c = c.claims.invariant.0

pub claims-preserved : goal.claims-preserved
claims-preserved c =
    let claims = c.args.list.now.claims in (
      all-rest claims c.claims.place IsClaim c.claims.invariant.0,
      one-more claims c.claims.place c.claims.kept.items c.keep_at.new.kept.items _ c.in_ok-keep_at.ensures c.claims.invariant.1,
    )

pub returns : goal.returns
returns c =
    let count = c.len-place-end.ensures in
    at-end c.args.list.now.claims c.claims.place c.claims.kept.items _ (omega (arith, count)) c.claims.invariant.1
