use Rattle.std.proofs.Common.{◌≡◌, ◌∙◌, ◌<◌, length, Some, sym, ap, subst, arith}
use Rattle.group_defs.specs.Certified.{place_at}
use Rattle.pool_values.specs.Places.{ArePlaced}
use Rattle.pool_values.proofs.PlacedLength.{placed-prefix, placed-push}
use Rattle.pool_values.proofs.places.follow.Goals as goal

pub places-preserved : goal.places-preserved
places-preserved c =
    let at : place_at c.args.quorums.now.pool (length c.places.prefix.batches)
    ≡ Some c.in-Some.batch = ap (place_at c.args.quorums.now.pool) (sym c.len-in-places.ensures) ∙ sym c.in-Some.ensures in
    let lt : length c.places.prefix.batches < 1024 = omega (arith, c.len.ensures, c.places-test.true) in
    record {
      view = c.push.ensures.view ∙ c.places.invariant.view;
      placed = subst (ArePlaced c.args.quorums.now.pool) (sym c.push.ensures.batches)
          (placed-push c.args.quorums.now.pool c.places.prefix.batches c.in-Some.batch c.places.invariant.placed lt at);
    }

pub returns-in_default : goal.returns-in_default
returns-in_default c =
    placed-prefix c.args.quorums.now.pool c.places.prefix c.places.invariant.view c.places.invariant.placed
    (λ lt. ap (place_at c.args.quorums.now.pool) (sym c.len-in-places.ensures) ∙ sym c.batch_at.ensures ∙ c.in_default.is)

pub returns : goal.returns
returns c =
    placed-prefix c.args.quorums.now.pool c.places.prefix c.places.invariant.view c.places.invariant.placed
    (λ lt. absurd (omega (arith, lt, c.len.ensures, c.places-test.false)))
