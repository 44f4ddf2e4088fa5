-- How a run of a node ends: with its stop, the last line, and the status.
use Rattle.std.specs.Prelude.{◌≡◌, ◌⊎◌, ℕ, List, [], ◌∷◌, Option}
use Rattle.node_defs.specs.Lines.{Stop, status_of, stop_line}
use Rattle.node_defs.specs.Lives.{Found}
use Rattle.node_traces.specs.Service.{Asked}
use Rattle.node_traces.specs.Outside.{LinkSeen, SinkSeen, SinkWrote, SinkFailed, SourceSeen}
pub use Rattle.node_script.specs.Service.{AreNothing}
use Rattle.node_script.specs.Sources.{most_line_bytes}
use Rattle.node_loop.specs.Resumed.{HasStoppedResuming}
use Rattle.node_loop.specs.Runs.{HasStopped}

-- The line was written, or the output failed, which took a front of it. Nothing is done where there is no line.
abbrev pub SaysLast : List ℕ → SinkSeen → SinkSeen → Type 0
SaysLast [] old new = new ≡ old
SaysLast (b ∷ line) old new = SinkWrote old new (b ∷ line) ⊎ SinkFailed old new (b ∷ line)

-- the line of the stop and its status, whether the output took the line or not; or no memory is left for the line, and nothing was done
abbrev pub EndsWith : Stop → ℕ → SinkSeen → SinkSeen → Type 0
EndsWith why status old new = ((status ≡ status_of why) × SaysLast (stop_line why) old new) ⊎ ((status ≡ 1) × (new ≡ old))

-- The run has ended, and the program ends with this status.
pub record HasEnded {D : Type 0} (seen : D → Option (List ℕ)) (may_leave : D → List ℕ → Type 0) (moment : D → ℕ)
    (left_since : D → ℕ → List ℕ → Type 0) (most : ℕ) (f : Found) (k : SourceSeen) (link : LinkSeen) (sink : SinkSeen) (old : D)
    (left : Option (List ℕ)) (faults : ℕ) (link_now : LinkSeen) (sink_now : SinkSeen) (new : D) (h i : List Asked) (status : ℕ) : Type 0 where
  pub why : Stop
  -- the output before the last line
  pub before : SinkSeen
  pub run : HasStopped seen may_leave moment left_since most f k link sink old left faults link_now before new h i why
  pub ends : EndsWith why status before sink_now

-- The same of a node that begins by a snapshot.
pub record HasEndedResuming {D : Type 0} (seen : D → Option (List ℕ)) (may_leave : D → List ℕ → Type 0) (moment : D → ℕ)
    (left_since : D → ℕ → List ℕ → Type 0) (most : ℕ) (f : Found) (k : SourceSeen) (link : LinkSeen) (sink : SinkSeen) (old : D)
    (left : Option (List ℕ)) (faults : ℕ) (link_now : LinkSeen) (sink_now : SinkSeen) (new : D) (h i : List Asked) (status : ℕ) : Type 0 where
  pub why : Stop
  -- the output before the last line
  pub before : SinkSeen
  pub run : HasStoppedResuming seen may_leave moment left_since most f k link sink old left faults link_now before new h i why
  pub ends : EndsWith why status before sink_now

-- The same of a node without a service: whatever the service was asked in the run, nothing was answered.
pub record HasEndedAlone {D : Type 0} (seen : D → Option (List ℕ)) (may_leave : D → List ℕ → Type 0) (moment : D → ℕ)
    (left_since : D → ℕ → List ℕ → Type 0) (f : Found) (k : SourceSeen) (link : LinkSeen) (sink : SinkSeen) (old : D)
    (left : Option (List ℕ)) (faults : ℕ) (link_now : LinkSeen) (sink_now : SinkSeen) (new : D) (status : ℕ) : Type 0 where
  pub asked : List Asked
  pub nothing : AreNothing asked
  pub ended : HasEnded seen may_leave moment left_since most_line_bytes f k link sink old left faults link_now sink_now new [] asked status
