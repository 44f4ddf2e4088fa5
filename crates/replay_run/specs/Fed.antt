-- Which bytes a replay was fed.
use Rattle.std.specs.Prelude.{ℕ, List}
use Rattle.replay_run.specs.declared.under_way.Replay.{Replay}
use Rattle.replay_run.specs.Midway.{IsAfter}

-- These bytes were fed, one piece after the other, and each event that is whole was run.
abbrev pub HasFed : Replay → List ℕ → Type 0
HasFed r fed = IsAfter r.reader r.run fed
