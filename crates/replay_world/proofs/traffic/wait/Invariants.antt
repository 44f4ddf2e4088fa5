use Rattle.std.proofs.Common.{◌≡◌, ◌++◌, map, drop}
use Rattle.std.specs.Prelude.{filter}
use Rattle.std.specs.VecDeque.{deque_items}
use Rattle.byte_defs.specs.Members.{has}
use Rattle.replay_cast.specs.Players.{process_of}
use Rattle.replay_world.specs.Traffic.{delivery}
use Rattle.replay_world.proofs.traffic.wait.Given as goal

abbrev pub invariant-loop-player : goal.invariant-loop-player
invariant-loop-player l =
    map delivery (deque_items l.pending) ++ map (λ p. (l.frame, p)) (filter (has l.to) (map process_of (drop l.player-index l.players)))
    ≡ map delivery (deque_items l.fn.pending) ++ map (λ p. (l.frame, p)) (filter (has l.to) (map process_of l.players))
