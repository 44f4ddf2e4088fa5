use Rattle.std.proofs.Common.{◌∷◌, [], ◌++◌, sym, ◌∙◌, arith}
use Rattle.schedule_events.specs.Seen.{roles}
use Rattle.schedule_laws.proofs.Behind.{event_shrinks}
use Rattle.schedule_laws.proofs.Turns.{one_more, no_more, all_read}
use Rattle.schedule_pieces.proofs.ending.last_found.Goals as goal

pub events-smaller : goal.events-smaller
events-smaller c =
    let next = c.in-Ok.ensures.ok in
    event_shrinks (roles c.args.of.now) c.events.left c.events.reader.rest.now (next.0, c.pass_event.new.reader.rest.now) next.1

pub events-preserved : goal.events-preserved
events-preserved c =
    let next = c.in-Ok.ensures.ok in
    let before = c.events.invariant.0 in (
      before ++ next.0 ∷ [],
      rw (c.saturating_sub-left.ensures, next.2)
          (sym (one_more (roles c.args.of.now) c.events.left c.events.reader.rest.now before next.0 c.pass_event.new.reader.rest.now next.1) ∙
          c.events.invariant.1),
    )

pub returns-in-Err : goal.returns-in-Err
returns-in-Err c = sym c.events.invariant.1 ∙ no_more
    (roles c.args.of.now) c.events.left c.events.reader.rest.now c.events.invariant.0 c.in-Err.found (omega arith) c.in-Err.ensures.err

pub returns : goal.returns
returns c = (
  c.events.invariant.0,
  sym c.events.invariant.1 ∙ all_read (roles c.args.of.now) c.events.left c.events.reader.rest.now c.events.invariant.0 (omega arith),
)
