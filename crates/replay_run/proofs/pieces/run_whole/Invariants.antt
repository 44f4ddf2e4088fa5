use Rattle.std.proofs.Common.{ℕ, List, length}
use Rattle.replay_run.specs.Midway.{IsMidway}
use Rattle.replay_run.proofs.pieces.run_whole.Given as goal

-- the reader and the run are those of all bytes of which they were at first
abbrev pub invariant-events : goal.invariant-events
invariant-events l = (fed : List ℕ) → IsMidway l.fn.reader l.fn.begun fed → IsMidway l.reader l.run fed

abbrev pub decreases-events : goal.decreases-events
decreases-events l = length l.reader.waiting
