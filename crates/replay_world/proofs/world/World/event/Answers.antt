use Rattle.std.proofs.Common.{◌+◌}
use Rattle.replay_world.proofs.Showing.{counted_shows}
use Rattle.replay_world.proofs.Happenings.{fits_counts}
use Rattle.replay_world.proofs.world.World.event.Goals as goal

pub returns-clause-happens : goal.returns-clause-happens
returns-clause-happens c = λ h v shows is.
    let happened = c.in_ok-happen.ensures.happens h v shows is in (
      record happened.0 { count = happened.0.count + 1 },
      fits_counts h v happened.0 _ c.happen.new.self.traffic happened.1 happened.2.traffic,
      counted_shows h c.happen.new.self happened.0 happened.2,
    )
