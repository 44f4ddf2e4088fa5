use Rattle.std.proofs.Common.{◌≡◌, ◌++◌, ℕ, List, length}
use Rattle.replay_run.specs.Fed.{HasFed}
use Rattle.replay_run.proofs.replaying.replay.Given as goal

-- what was fed, and what is left, are all of the bytes
abbrev pub invariant-pieces : goal.invariant-pieces
invariant-pieces l = record {
  fed : List ℕ;
  has : HasFed l.replay fed;
  all : l.bytes ≡ fed ++ l.rest;
}

abbrev pub decreases-pieces : goal.decreases-pieces
decreases-pieces l = length l.rest
