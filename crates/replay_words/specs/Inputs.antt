-- What a replay was fed of an input.
use Rattle.std.specs.Prelude.{ℕ, ◌≤◌, List, length, Option}
use Rattle.std.specs.Io.KnownBytes.{Consumes, IsAtEnd}
use Rattle.replay_defs.specs.Schedules.{most_bytes}
use Rattle.replay_run.specs.declared.under_way.Replay.{Replay}
use Rattle.replay_run.specs.Fed.{HasFed}

-- It was fed what was taken of a source: all that this had left, or more than a schedule may have.
pub record WasFed (before now : Option (List ℕ)) (r : Replay) : Type 0 where
  pub input : List ℕ
  pub fed : HasFed r input
  pub taken : Consumes before now input
  pub ended : length input ≤ most_bytes → IsAtEnd now
