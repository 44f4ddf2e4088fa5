use Rattle.std.proofs.Common.{map, [], ◌∷◌}
use Rattle.std.proofs.lemmas.List.{map-append}
use Rattle.snapshot_rp.proofs.Lists.{goes_on, stops, ends}
use Rattle.snapshot_rp.proofs.entries.entries.Goals as goal

pub returns-in-Err : goal.returns-in-Err
returns-in-Err g c = stops (g.T.Entry.step c.args.reading.version) c.args.count c.loop-position.position
    c.loop-position.cursor.rest.now (map g.T.Entry.plain c.loop-position.all.items) _ c.in-Err.fault c.loop-position-test.true
    c.in-Err.ensures c.loop-position.invariant

pub loop-position-preserved : goal.loop-position-preserved
loop-position-preserved g c = rw
    (c.in_ok-push-in-Ok.ensures.items, map-append g.T.Entry.plain c.loop-position.all.items (c.in-Ok.entry ∷ []))
    (goes_on (g.T.Entry.step c.args.reading.version) c.args.count c.loop-position.position c.loop-position.cursor.rest.now
    (map g.T.Entry.plain c.loop-position.all.items) _ _ _ c.loop-position-test.true c.in-Ok.ensures c.loop-position.invariant)

pub returns : goal.returns
returns g c = ends (g.T.Entry.step c.args.reading.version) c.args.count c.loop-position.position c.loop-position.cursor.rest.now
    (map g.T.Entry.plain c.loop-position.all.items) _ c.loop-position-test.false c.loop-position.invariant
