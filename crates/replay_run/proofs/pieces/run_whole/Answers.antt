use Rattle.std.proofs.Common.{ℕ, List}
use Rattle.std.proofs.Math.Logic.{∥∥₁_elim, ∥∥₁_map}
use Rattle.replay_run.specs.Midway.{IsAfter}
use Rattle.replay_run.proofs.Ranges.{can_count-once}
use Rattle.replay_run.proofs.pieces.run_whole.Goals as goal

pub run_event-requires : goal.run_event-requires
run_event-requires c = ∥∥₁_elim c.requires (can_count-once c.events.run) (λ some.
    (rw c.in-Some.is at c.in_ok-event.ensures.gives c.events.run some.0 (c.events.invariant some.0 some.1)).0)

pub events-smaller : goal.events-smaller
events-smaller c = rw c.in-Some.is at c.in_ok-event.ensures.moves

pub events-preserved : goal.events-preserved
events-preserved c = λ fed midway.
    (rw c.in-Some.is at c.in_ok-event.ensures.gives c.events.run fed (c.events.invariant fed midway)).1 c.in_ok-run.run' c.in_ok-run.ensures

pub returns-clause-after : goal.returns-clause-after
returns-clause-after c = λ fed midway. rw c.in_default.is at c.in_ok-event.ensures.gives c.events.run fed (c.events.invariant fed midway)

pub returns-clause-real : goal.returns-clause-real
returns-clause-real c = ∥∥₁_map c.requires (λ some.
    let after : (fed : List ℕ) × IsAfter c.next_event.new.reader c.events.run fed = (
      some.0,
      rw c.in_default.is at c.in_ok-event.ensures.gives c.events.run some.0 (c.events.invariant some.0 some.1),
    ) in after)
