use Rattle.std.proofs.Common.{inr, refl}
use Rattle.node_loop.proofs.Snaps.{none-judged, snap-judged}
use Rattle.node_loop.proofs.resuming.judge.Goals as goal

pub returns-in-Some-clause-is : goal.returns-in-Some-clause-is
returns-in-Some-clause-is c = snap-judged c.args.kit.now c.args.line.now c.in_ok-snap.field-0 c.in-Some.snap c.in-Some.is c.in_ok-snap.ensures.exact
    c.in_ok-snap.ensures.is

pub returns-in-None-clause-none : goal.returns-in-None-clause-none
returns-in-None-clause-none c = inr (refl, none-judged c.args.kit.now c.args.line.now c.in_ok-snap.field-0 c.in-None.is c.in_ok-snap.ensures.exact)
