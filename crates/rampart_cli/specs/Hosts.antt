-- How a node with a service has ended, and how one that begins by a snapshot.
use Rattle.std.specs.Prelude.{ℕ, List, [], Option}
use Rattle.node_defs.specs.Lives.{Found}
use Rattle.node_traces.specs.Outside.{LinkSeen, SinkSeen, SourceSeen}
use Rattle.node_traces.specs.Service.{Asked}
use Rattle.node_loop.specs.Ended.{AreNothing, HasEnded, HasEndedResuming}
use Rattle.node_loop.specs.Inputs.{most_line_bytes}

-- The run of a node, with lines of at most `most` bytes, has ended, and the program ends with this status. Of all that the service was
-- asked in the run, and of its answers, this holds.
pub record HasEndedWith (Are : List Asked → Type 0) {D : Type 0} (seen : D → Option (List ℕ)) (may_leave : D → List ℕ → Type 0)
    (moment : D → ℕ) (left_since : D → ℕ → List ℕ → Type 0) (most : ℕ) (f : Found) (k : SourceSeen) (link : LinkSeen)
    (sink : SinkSeen) (old : D) (left : Option (List ℕ)) (faults : ℕ) (link_now : LinkSeen) (sink_now : SinkSeen) (new : D) (status : ℕ)
    : Type 0 where
  pub asked : List Asked
  pub are : Are asked
  pub ended : HasEnded seen may_leave moment left_since most f k link sink old left faults link_now sink_now new [] asked status

-- The run of a node that begins by a snapshot has ended, and it has no service: whatever that was asked in the run, nothing was answered.
pub record HasResumedAlone {D : Type 0} (seen : D → Option (List ℕ)) (may_leave : D → List ℕ → Type 0) (moment : D → ℕ)
    (left_since : D → ℕ → List ℕ → Type 0) (f : Found) (k : SourceSeen) (link : LinkSeen) (sink : SinkSeen) (old : D)
    (left : Option (List ℕ)) (faults : ℕ) (link_now : LinkSeen) (sink_now : SinkSeen) (new : D) (status : ℕ) : Type 0 where
  pub asked : List Asked
  pub nothing : AreNothing asked
  pub ended : HasEndedResuming seen may_leave moment left_since most_line_bytes f k link sink old left faults link_now sink_now new [] asked status
