-- Part by part, as the code goes on: what is around a running node before and after a call, and what its tasks become.
use Rattle.std.proofs.Common.{◌≡◌, ℕ, List, [], ◌∷◌, ◌++◌, Option, None, subst}
use Rattle.std.specs.Prelude.{IsTrue}
use Rattle.byte_defs.specs.Members.{has}
use Rattle.node_defs.specs.Lines.{Stop}
use Rattle.node_defs.specs.Nodes.{Node, Task, Snapper}
use Rattle.node_traces.specs.Stops.{Outset}
use Rattle.node_traces.specs.Outside.{LinkSeen, SinkSeen, SourceSeen}
use Rattle.node_traces.specs.Service.{Asked, HeardBy}
use Rattle.sealing_laws.specs.Running.{IsNode, Running, cast_in, numbers_of}
use Rattle.node_taking.specs.Keeping.{at}
use Rattle.node_taking.specs.Taking.{GoesOnTo, HasNode, StopsSo, outside}
use Rattle.node_taking.proofs.Joined.{on-and-on, on-and-stops, on-nothing, still-hosted, with-tasks}

-- the disk of the journal, the service, the link and the output
pub record Around (D V : Type 0) : Type 0 where
  pub disk : D
  pub service : V
  pub link : LinkSeen
  pub sink : SinkSeen

abbrev pub around : {D V : Type 0} → D → V → LinkSeen → SinkSeen → Around D V
around disk service link sink = record { disk = disk; service = service; link = link; sink = sink }

module _ {D V : Type 0} (seen : D → Option (List ℕ)) (may_leave : D → List ℕ → Type 0) (moment : D → ℕ)
    (left_since : D → ℕ → List ℕ → Type 0) (heard : V → List Asked → Type 0) where
  -- From the node at these tasks, whatever its others: the node at those, and what the service answered is its own.
  abbrev pub Leads : Running → Around D V → List Task → List Task → Running → Around D V → Type 0
  Leads r x us ws r' y = (snap : Snapper) (most : ℕ) (f : Outset) (source : SourceSeen) (h : List Asked) (n : Node) (ts : List Task)
      → heard x.service h → IsNode f (seen x.disk) (may_leave x.disk) r n (us ++ ts)
      → HeardBy heard y.service (λ i. GoesOnTo seen may_leave moment left_since (cast_in r) snap most f n (outside x.link x.sink source h) x.disk
      (ws ++ ts) (outside y.link y.sink source i) y.disk r')

  -- from the node at these tasks to its stop
  abbrev pub LeadsToStop : Running → Around D V → List Task → Stop → Around D V → Type 0
  LeadsToStop r x us why y = (snap : Snapper) (most : ℕ) (f : Outset) (source : SourceSeen) (h : List Asked) (n : Node) (ts : List Task)
      → heard x.service h → IsNode f (seen x.disk) (may_leave x.disk) r n (us ++ ts)
      → HeardBy heard y.service (λ i. StopsSo seen may_leave moment left_since (cast_in r) snap most f n (outside x.link x.sink source h) x.disk
      why (outside y.link y.sink source i) y.disk)

  -- before a task that is left for later
  pub leads-before : (r r' : Running) (x y : Around D V) (t u v : Task) → Leads r x (t ∷ u ∷ []) [] r' y → Leads r x (t ∷ u ∷ v ∷ []) (v ∷ []) r' y
  leads-before r r' x y t u v leads = λ snap most f source h n ts has is. leads snap most f source h n (v ∷ ts) has is

  pub stop-before : (r : Running) (x y : Around D V) (t u v : Task) (why : Stop) → LeadsToStop r x (t ∷ u ∷ []) why y
      → LeadsToStop r x (t ∷ u ∷ v ∷ []) why y
  stop-before r x y t u v why leads = λ snap most f source h n ts has is. leads snap most f source h n (v ∷ ts) has is

  -- ---- the node after it

  -- the node that it has gone on to
  pub node-led : (r r' : Running) (x y : Around D V) (us ws : List Task) → Leads r x us ws r' y → HeardBy heard x.service (λ h. Unit {0})
      → HasNode (seen x.disk) (may_leave x.disk) r → HasNode (seen y.disk) (may_leave y.disk) r'
  node-led r r' x y us ws leads begun here =
      let nobody : Snapper = λ m digest. [] in
      let source : SourceSeen = record { left = None; faults = 0 } in
      let on = (leads nobody 0 here.from source begun.history (at here.node (us ++ [])) [] begun.has
      (with-tasks here.from (seen x.disk) (may_leave x.disk) r here.node here.tasks (us ++ []) here.is)).holds in
      record { from = here.from; node = on.node; tasks = ws ++ []; is = on.is }

  -- and the same are hosted
  pub hosted-led : (r r' : Running) (x y : Around D V) (us ws : List Task) (p : ℕ) → Leads r x us ws r' y → HeardBy heard x.service (λ h. Unit {0})
      → HasNode (seen x.disk) (may_leave x.disk) r → IsTrue (has (numbers_of r.hosts) p) → IsTrue (has (numbers_of r'.hosts) p)
  hosted-led r r' x y us ws p leads begun here hosted =
      let nobody : Snapper = λ m digest. [] in
      let source : SourceSeen = record { left = None; faults = 0 } in
      let on = (leads nobody 0 here.from source begun.history (at here.node (us ++ [])) [] begun.has
      (with-tasks here.from (seen x.disk) (may_leave x.disk) r here.node here.tasks (us ++ []) here.is)).holds in
      still-hosted here.from (seen y.disk) (may_leave y.disk) (cast_in r) r' on.node (ws ++ []) p on.is on.cast
      (subst (λ (ps : List ℕ). IsTrue (has ps p)) here.is.hosts.numbers hosted)

  -- ---- one after the other

  module _ (only_now : (d : D) (image : List ℕ) → left_since d (moment d) image → may_leave d image) where
    pub leads-on : (r q r' : Running) (x y z : Around D V) (us vs ws : List Task) → Leads r x us vs q y → Leads q y vs ws r' z
        → Leads r x us ws r' z
    leads-on r q r' x y z us vs ws one two = λ snap most f source h n ts has is.
        let first = one snap most f source h n ts has is in
        let more = two snap most f source first.history first.holds.node ts first.has first.holds.is in
        record {
          history = more.history;
          has = more.has;
          holds = on-and-on seen may_leave moment left_since only_now snap most f (cast_in r) n (outside x.link x.sink source h)
              (outside y.link y.sink source first.history) (outside z.link z.sink source more.history) x.disk y.disk z.disk (vs ++ ts) (ws ++ ts)
              q r' first.holds more.holds;
        }

    pub leads-and-stops : (r q : Running) (x y z : Around D V) (us vs : List Task) (why : Stop) → Leads r x us vs q y → LeadsToStop q y vs why z
        → LeadsToStop r x us why z
    leads-and-stops r q x y z us vs why one two = λ snap most f source h n ts has is.
        let first = one snap most f source h n ts has is in
        let more = two snap most f source first.history first.holds.node ts first.has first.holds.is in
        record {
          history = more.history;
          has = more.has;
          holds = on-and-stops seen may_leave moment left_since only_now snap most f (cast_in r) n (outside x.link x.sink source h)
              (outside y.link y.sink source first.history) (outside z.link z.sink source more.history) x.disk y.disk z.disk (vs ++ ts) q why
              first.holds more.holds;
        }

    -- no part
    pub leads-nowhere : (r : Running) (x : Around D V) (us : List Task) → Leads r x us us r x
    leads-nowhere r x us = λ snap most f source h n ts has is. record {
      history = h;
      has = has;
      holds = on-nothing seen may_leave moment left_since only_now snap most f r n (outside x.link x.sink source h) x.disk (us ++ ts) is;
    }
