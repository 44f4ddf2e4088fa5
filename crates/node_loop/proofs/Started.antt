-- The run of a node that begins at the start of its journal.
use Rattle.std.proofs.Common.{ℕ, List, Option, None}
use Rattle.kit_defs.specs.Kits.{Kit}
use Rattle.node_defs.specs.Lines.{Stop}
use Rattle.node_defs.specs.Lives.{Found}
use Rattle.node_traces.specs.Outside.{LinkSeen, SinkSeen, SourceSeen}
use Rattle.node_traces.specs.Service.{Asked}
use Rattle.node_script.specs.Inputs.{HasKit}
use Rattle.node_loop.specs.Runs.{HasStopped, not_opened, ran}
use Rattle.node_loop.specs.Resumed.{NodeEnds, ran_on, stays_shut}

-- as its node ends, so does the run
pub begun-at-start : {D : Type 0} (seen : D → Option (List ℕ)) (may_leave : D → List ℕ → Type 0) (moment : D → ℕ)
    (left_since : D → ℕ → List ℕ → Type 0) (most : ℕ) (f : Found) (k : SourceSeen) (link : LinkSeen) (sink : SinkSeen) (old : D)
    (left : Option (List ℕ)) (faults : ℕ) (link_now : LinkSeen) (sink_now : SinkSeen) (new : D) (h i : List Asked) (kit : Kit) (go : ℕ)
    (l : SourceSeen) → HasKit k kit go l → (why : Stop)
    → NodeEnds seen may_leave moment left_since kit None most f go l link sink old left faults link_now sink_now new h i why
    → HasStopped seen may_leave moment left_since most f k link sink old left faults link_now sink_now new h i why
begun-at-start seen may_leave moment left_since most f k link sink old left faults link_now sink_now new h i kit go l has _
    (stays_shut why ahead here not) =
    not_opened why ahead (record { kit = kit; go = go; source = l; has = has; holds = (here, not) })
begun-at-start seen may_leave moment left_since most f k link sink old left faults link_now sink_now new h i kit go l has _
    (ran_on why ahead can on) =
    ran why ahead can (record { kit = kit; go = go; source = l; has = has; holds = on })
