use Rattle.std.proofs.Common.{sym, arith, ◌≤◌, length}
use Rattle.claim_pool.specs.Settings.{as_setting}
use Rattle.conviction.specs.Own.{kept}
use Rattle.conviction.proofs.Walking.{none-yet, whole-quiet}
use Rattle.conviction.proofs.convicting.any_conflict.Goals as goal

pub loop-place-init : goal.loop-place-init
loop-place-init g c = none-yet (as_setting (g.V.Scheme.valid c.args.scheme.now) c.args.group.now c.args.roster.now) kept c.args.claims.now

pub loop-place-preserved : goal.loop-place-preserved
loop-place-preserved g c = c.convicts_at.ensures.none c.if-convicts_at.false c.loop-place.invariant

pub returns-then-convicts_at : goal.returns-then-convicts_at
returns-then-convicts_at g c = sym (c.convicts_at.ensures.some c.if-convicts_at.true)

pub returns : goal.returns
returns g c =
    let le : length c.args.claims.now ≤ c.loop-place.place = omega (arith, c.loop-place-test.false) in
    sym (whole-quiet (as_setting (g.V.Scheme.valid c.args.scheme.now) c.args.group.now c.args.roster.now) kept c.args.claims.now
    c.loop-place.place le c.loop-place.invariant)
