use Rattle.std.proofs.Common.{◌≡◌, ◌-◌, ℕ, List, length}
use Rattle.std.specs.Io.KnownBytes.{Consumes}
use Rattle.replay_run.specs.Fed.{HasFed}
use Rattle.replay_words.proofs.streams.replay_pieces.Given as goal

-- what was taken so far was fed, and no call has failed
abbrev pub invariant-pieces : goal.invariant-pieces
invariant-pieces g l = record {
  fed : List ℕ;
  has : HasFed l.replay fed;
  taken : Consumes (g.S.Source.left l.fn.input) (g.S.Source.left l.input) fed;
  count : length fed ≡ l.taken;
  steady : g.S.Source.faults l.input ≡ g.S.Source.faults l.fn.input;
}

-- what the limit leaves
abbrev pub decreases-pieces : goal.decreases-pieces
decreases-pieces g l = 67108865 - l.taken
