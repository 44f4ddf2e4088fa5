-- A line of the script that was read, carried out.
use Rattle.std.proofs.Common.{◌≡◌, ℕ, ◌+◌, List, [], Option, Result, Ok, Err, refl, sym, ◌∙◌}
use Rattle.std.specs.Prelude.{◌≢◌, IfErr, IfOk}
use Rattle.node_defs.specs.Casts.{Cast}
use Rattle.node_defs.specs.Lines.{Stop}
use Rattle.node_defs.specs.Nodes.{Node, Task, Snapper, tasks_of_line}
use Rattle.node_defs.specs.Scripts.{Line, most_lines}
use Rattle.node_traces.specs.Stops.{Outset}
use Rattle.node_traces.specs.Outside.{LinkSeen, SinkSeen, SourceSeen}
use Rattle.node_traces.specs.Service.{Asked, HeardBy}
use Rattle.node_traces.specs.Goes.{Goes}
use Rattle.node_traces.specs.Went.{Went}
use Rattle.script_laws.specs.Script.{HasToDo, StopsWith, with_line}
use Rattle.node_input.specs.Reads.{Asks}
use Rattle.node_input.specs.Sources.{SeenAs}
use Rattle.node_snapping.specs.Stops.{stop as stop_of, Stop as Why}
use Rattle.node_snapping.specs.Hosts.{Running, IsAt, IsNode, cast_in, numbers_of}
use Rattle.node_snapping.specs.Taking.{GoesOnTo, StopsSo, outside}
use Rattle.node_snapping.proofs.Handed.{still, stops-after}
use Rattle.node_script.specs.Ends.{ReadsOn}
use Rattle.node_script.proofs.Joined.{carried-on}
use Rattle.node_script.proofs.Answered.{asks-on, stops-so}

pub to-do : (n : Node) (ts : List Task) → IsAt n ts → HasToDo n ts
to-do n ts is = record { runs = is.runs; opened = is.opened; leaving = is.leaving; tasks = is.tasks }

-- a running node that has read one line more
pub with-line-is : (f : Outset) (seen : Option (List ℕ)) (may_leave : List ℕ → Type 0) (r : Running) (n : Node) (ts : List Task)
    → IsNode f seen may_leave r n [] → IsNode f seen may_leave r (with_line n ts) ts
with-line-is f seen may_leave r n ts is = record {
  at = record { runs = is.at.runs; opened = is.at.opened; leaving = is.at.leaving; tasks = refl; text = is.at.text; late = is.at.late };
  hosts = is.hosts;
  journal = record { gate = is.journal.gate; length = is.journal.length; rest = is.journal.rest };
  keyed = is.keyed;
  sound = record { processes = is.sound.processes; out = is.sound.out; finished = is.sound.finished };
  counts = record { each = is.counts.each; few = is.counts.few };
}

-- one that has done what it had to
pub done-is : (f : Outset) (seen : Option (List ℕ)) (may_leave : List ℕ → Type 0) (r : Running) (n : Node) (ts : List Task)
    → IsNode f seen may_leave r n ts → IsNode f seen may_leave r (record n { tasks = [] }) []
done-is f seen may_leave r n ts is = record {
  at = record { runs = is.at.runs; opened = is.at.opened; leaving = is.at.leaving; tasks = refl; text = is.at.text; late = is.at.late };
  hosts = is.hosts;
  journal = record { gate = is.journal.gate; length = is.journal.length; rest = is.journal.rest };
  keyed = is.keyed;
  sound = record { processes = is.sound.processes; out = is.sound.out; finished = is.sound.finished };
  counts = record { each = is.counts.each; few = is.counts.few };
}

module _ {D : Type 0} (seen : D → Option (List ℕ)) (may_leave : D → List ℕ → Type 0) (moment : D → ℕ)
    (left_since : D → ℕ → List ℕ → Type 0) (only_now : (d : D) (image : List ℕ) → left_since d (moment d) image → may_leave d image)
    (snap : Snapper) (most : ℕ) (f : Outset) (r : Running) where
  abbrev c : Cast
  c = cast_in r

  -- ---- a line for the service

  module _ {V : Type 0} (heard : V → List Asked → Type 0) (service : V) (n : Node) (l m : LinkSeen) (s t : SinkSeen) (o : SourceSeen)
      (h : List Asked) (d : D) (ts : List Task) (is : IsNode f (seen d) (may_leave d) r n ts) where
    -- it was answered, and all of that is done
    pub served-on : HeardBy heard service (λ i. Goes c snap most n (outside l s o h) (record n { tasks = [] }) (outside m t o i))
        → HeardBy heard service (λ i. GoesOnTo seen may_leave moment left_since c snap most f n (outside l s o h) d [] (outside m t o i) d r)
    served-on on = record {
      history = on.history;
      has = on.has;
      holds = record {
        node = record n { tasks = [] };
        went = still seen may_leave moment left_since only_now c snap most f n (record n { tasks = [] }) (outside l s o h)
            (outside m t o on.history) d is.at.opened is.journal.rest on.holds;
        is = done-is f (seen d) (may_leave d) r n ts is;
        cast = refl;
        lines = refl;
        script = refl;
      };
    }

    pub served-to-stop : (why : Stop) → HeardBy heard service (λ i. StopsWith c snap most n (outside l s o h) why (outside m t o i))
        → HeardBy heard service (λ i. StopsSo seen may_leave moment left_since c snap most f n (outside l s o h) d why (outside m t o i) d)
    served-to-stop why stops = record {
      history = stops.history;
      has = stops.has;
      holds = stops-so seen may_leave moment left_since only_now c snap most f n (outside l s o h) (outside m t o stops.history) d why
          is.at.opened is.journal.rest stops.holds;
    }

  -- ---- the next line

  module _ (n : Node) (l m : LinkSeen) (s t : SinkSeen) (k : SourceSeen) (h : List Asked) (old new : D) (hosted : List ℕ) (number : ℕ)
      (line : List ℕ) (said : Line) (ahead : List ℕ) (left : Option (List ℕ)) (faults : ℕ) (is : IsNode f (seen old) (may_leave old) r n [])
      (same : hosted ≡ numbers_of r.hosts) (few : n.script ≢ most_lines) (next : number ≡ n.lines + 1)
      (way : SeenAs (λ o. Asks most hosted k o line said) ahead left faults) where
    abbrev then-at : Node
    then-at = with_line n (tasks_of_line line said)

    at-is : IsNode f (seen old) (may_leave old) r then-at (tasks_of_line line said)
    at-is = with-line-is f (seen old) (may_leave old) r n (tasks_of_line line said) is

    reads-it : Went seen moment left_since c snap most f n (outside l s k h) old then-at (outside l s way.source h) old
    reads-it = asks-on seen may_leave moment left_since only_now c snap most f n l s k h old (to-do n [] is.at) is.journal.rest hosted
        way.source line said (same ∙ is.hosts.numbers) few way.holds

    line-on : (i : List Asked) (r' : Running)
        → GoesOnTo seen may_leave moment left_since c snap most f then-at (outside l s way.source h) old [] (outside m t way.source i) new r'
        → SeenAs (λ o. ReadsOn seen may_leave moment left_since c snap most f n (outside l s k h) old 1 (outside m t o i) new r') ahead left
        faults
    line-on i r' carried = record {
      source = way.source;
      seen = way.seen;
      holds = carried-on seen may_leave moment left_since only_now (λ k. snap) most f c n (outside l s k h) (outside l s way.source h)
          (outside m t way.source i) old old new then-at r' reads-it refl refl carried;
    }

    line-stops : (i : List Asked) (why : Stop)
        → StopsSo seen may_leave moment left_since c snap most f then-at (outside l s way.source h) old why (outside m t way.source i) new
        → SeenAs (λ o. StopsSo seen may_leave moment left_since c snap most f n (outside l s k h) old why (outside m t o i) new) ahead left
        faults
    line-stops i why stops = record {
      source = way.source;
      seen = way.seen;
      holds = stops-after seen may_leave moment left_since only_now c snap most f n then-at (outside l s k h) (outside l s way.source h)
          (outside m t way.source i) old old new why reads-it stops;
    }

    -- by what the code answers
    module _ {V : Type 0} (heard : V → List Asked → Type 0) (service : V) where
      pub line-result : (result : Result Running Why) → ((o : SourceSeen) (w : Node)
          → IsNode f (seen old) (may_leave old) r w (tasks_of_line line said) → w.lines ≡ number
          → IfOk result (λ r'. HeardBy heard service (λ i. GoesOnTo seen may_leave moment left_since c snap most f w (outside l s o h) old []
          (outside m t o i) new r')))
          → IfOk result (λ r'. HeardBy heard service (λ i. SeenAs (λ o. ReadsOn seen may_leave moment left_since c snap most f n
          (outside l s k h) old 1 (outside m t o i) new r') ahead left faults))
      line-result (Ok r') carries =
          let on = carries way.source then-at at-is (sym next) in
          record { history = on.history; has = on.has; holds = line-on on.history r' on.holds }
      line-result (Err why) carries = tt

      pub line-stopped : (result : Result Running Why) → ((o : SourceSeen) (w : Node)
          → IsNode f (seen old) (may_leave old) r w (tasks_of_line line said) → w.lines ≡ number
          → IfErr result (λ why. HeardBy heard service (λ i. StopsSo seen may_leave moment left_since c snap most f w (outside l s o h) old
          (stop_of why) (outside m t o i) new)))
          → IfErr result (λ why. HeardBy heard service (λ i. (all : List ℕ) × SeenAs (λ o. StopsSo seen may_leave moment left_since c snap
          most f n (outside l s k h) old (stop_of why) (outside m t o i) new) all left faults))
      line-stopped (Ok r') carries = tt
      line-stopped (Err why) carries =
          let stops = carries way.source then-at at-is (sym next) in
          record { history = stops.history; has = stops.has; holds = (ahead, line-stops stops.history (stop_of why) stops.holds) }
