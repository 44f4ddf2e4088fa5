-- A node with a service, or without one.
use Rattle.std.proofs.Common.{◌≡◌, ℕ, List, [], Option, refl, subst, sym}
use Rattle.std.proofs.Math.Nat.{max-zero}
use Rattle.node_defs.specs.Lives.{Found}
use Rattle.node_traces.specs.Outside.{LinkSeen, SinkSeen, SourceSeen}
use Rattle.node_traces.specs.Service.{Asked, HeardBy}
use Rattle.node_loop.specs.Ended.{AreNothing, HasEnded, HasEndedAlone, HasEndedResuming}
use Rattle.node_loop.specs.Inputs.{TellInOrder, TellInOrderResuming, line_limit, most_line_bytes}
use Rattle.store_defs.specs.Words.{most_state_line_bytes}
use Rattle.rampart_cli.specs.Hosts.{HasEndedWith, HasResumedAlone}

-- ---- how long lines may be

-- without a service
pub alone_limit : line_limit 0 ≡ most_line_bytes
alone_limit = max-zero most_line_bytes

-- those of a guard are no longer
pub guard_limit : line_limit 70000 ≡ most_line_bytes
unfolding most_line_bytes
guard_limit = refl

-- those of servers may be longer
pub serve_limit : line_limit most_state_line_bytes ≡ most_state_line_bytes
unfolding most_line_bytes most_state_line_bytes
serve_limit = refl

-- so a script in order is one for the service too
pub in_order : (longest most : ℕ) → line_limit longest ≡ most → (left seen : Option (List ℕ)) → TellInOrder most left seen
    → TellInOrder (line_limit longest) left seen
in_order longest most limit left seen order = subst (λ (m : ℕ). TellInOrder m left seen) (sym limit) order

pub in_order_resuming : (longest most : ℕ) → line_limit longest ≡ most → (left seen : Option (List ℕ)) → TellInOrderResuming most left seen
    → TellInOrderResuming (line_limit longest) left seen
in_order_resuming longest most limit left seen order = subst (λ (m : ℕ). TellInOrderResuming m left seen) (sym limit) order

-- ---- how a node has ended

-- where each history that the service has is one of these, that of the run is one
pub with_service : {D V : Type 0} (Are : List Asked → Type 0) (heard : V → List Asked → Type 0) → ((v : V) (h : List Asked) → heard v h → Are h)
    → (longest most : ℕ) → line_limit longest ≡ most → (seen : D → Option (List ℕ)) (may_leave : D → List ℕ → Type 0) (moment : D → ℕ)
    (left_since : D → ℕ → List ℕ → Type 0) (f : Found) (k : SourceSeen) (link : LinkSeen) (sink : SinkSeen) (old : D)
    (left : Option (List ℕ)) (faults : ℕ) (link_now : LinkSeen) (sink_now : SinkSeen) (new : D) (status : ℕ) (service : V)
    → HeardBy heard service (λ i. HasEnded seen may_leave moment left_since (line_limit longest) f k link sink old left faults
    link_now sink_now new [] i status)
    → HasEndedWith Are seen may_leave moment left_since most f k link sink old left faults link_now sink_now new status
with_service Are heard are longest most limit seen may_leave moment left_since f k link sink old left faults link_now sink_now new status
    service ended = record {
      asked = ended.history;
      are = are service ended.history ended.has;
      ended = subst (λ (m : ℕ). HasEnded seen may_leave moment left_since m f k link sink old left faults link_now sink_now new []
          ended.history status) limit ended.holds;
    }

-- a history that no service has is one of calls that were answered with nothing
pub alone : {D V : Type 0} (seen : D → Option (List ℕ)) (may_leave : D → List ℕ → Type 0) (moment : D → ℕ)
    (left_since : D → ℕ → List ℕ → Type 0) (f : Found) (k : SourceSeen) (link : LinkSeen) (sink : SinkSeen) (old : D)
    (left : Option (List ℕ)) (faults : ℕ) (link_now : LinkSeen) (sink_now : SinkSeen) (new : D) (status : ℕ) (service : V)
    → HeardBy (λ (v : V) h. AreNothing h) service (λ i. HasEnded seen may_leave moment left_since (line_limit 0) f k link sink old left faults
    link_now sink_now new [] i status)
    → HasEndedAlone seen may_leave moment left_since f k link sink old left faults link_now sink_now new status
alone seen may_leave moment left_since f k link sink old left faults link_now sink_now new status service ended = record {
  asked = ended.history;
  nothing = ended.has;
  ended = subst (λ (m : ℕ). HasEnded seen may_leave moment left_since m f k link sink old left faults link_now sink_now new []
      ended.history status) alone_limit ended.holds;
}

-- the same of a node that begins by a snapshot
pub resumed_alone : {D V : Type 0} (seen : D → Option (List ℕ)) (may_leave : D → List ℕ → Type 0) (moment : D → ℕ)
    (left_since : D → ℕ → List ℕ → Type 0) (f : Found) (k : SourceSeen) (link : LinkSeen) (sink : SinkSeen) (old : D)
    (left : Option (List ℕ)) (faults : ℕ) (link_now : LinkSeen) (sink_now : SinkSeen) (new : D) (status : ℕ) (service : V)
    → HeardBy (λ (v : V) h. AreNothing h) service (λ i. HasEndedResuming seen may_leave moment left_since (line_limit 0) f k link sink old left faults
    link_now sink_now new [] i status)
    → HasResumedAlone seen may_leave moment left_since f k link sink old left faults link_now sink_now new status
resumed_alone seen may_leave moment left_since f k link sink old left faults link_now sink_now new status service ended = record {
  asked = ended.history;
  nothing = ended.has;
  ended = subst (λ (m : ℕ). HasEndedResuming seen may_leave moment left_since m f k link sink old left faults link_now sink_now new []
      ended.history status) alone_limit ended.holds;
}
