-- One receive, from the running node that asks for it to the one that has its answer.
use Rattle.std.proofs.Common.{◌≡◌, ℕ, suc, ◌+◌, List, ◌∷◌, ◌++◌, Option, sym, subst}
use Rattle.node_defs.specs.Casts.{Cast}
use Rattle.node_defs.specs.Lines.{Stop, fault_line, recv_line}
use Rattle.node_defs.specs.Nodes.{Node, Task, Get, Say, Done, Failed, Came, ReceivesOn, Snapper, after_came, more_gets}
use Rattle.node_traces.specs.Stops.{Outset}
use Rattle.node_traces.specs.Outside.{LinkSeen, LinkStep, SinkSeen, SourceSeen}
use Rattle.node_traces.specs.Service.{Asked, HeardBy}
use Rattle.node_taking.specs.Hosts.{IsNode, Running, cast_in}
use Rattle.node_taking.specs.Taking.{GoesOnTo, StopsSo, outside}
use Rattle.node_taking.proofs.Joined.{on-and-on, on-and-stops, on-still}
use Rattle.node_receiving.proofs.Gets.{gets-fault, gets-none, gets-one}

module _ {D : Type 0} (seen : D → Option (List ℕ)) (may_leave : D → List ℕ → Type 0) (moment : D → ℕ)
    (left_since : D → ℕ → List ℕ → Type 0) (only_now : (d : D) (image : List ℕ) → left_since d (moment d) image → may_leave d image)
    (snap : Snapper) (most : ℕ) (f : Outset) (r : Running) (n : Node) (p left count port : ℕ) (ts : List Task) (k l : LinkSeen) (s : SinkSeen)
    (o : SourceSeen) (h : List Asked) (d : D) (is : IsNode f (seen d) (may_leave d) r n (Get p (suc left) count ∷ ts))
    (own : (cast_in r).port p ≡ port) where
  abbrev c : Cast
  c = cast_in r

  -- nothing was coming
  pub came-none : LinkStep k (ReceivesOn port, Done) l
      → GoesOnTo seen may_leave moment left_since c snap most f n (outside k s o h) d (Say (recv_line p count) ∷ ts) (outside l s o h) d r
  came-none step = on-still seen may_leave moment left_since only_now snap most f r n (outside k s o h) (outside l s o h) d
      (Get p (suc left) count ∷ ts) (Say (recv_line p count) ∷ ts) is
      (gets-none c snap most n p left count ts k l s o h (subst (λ (q : ℕ). LinkStep k (ReceivesOn q, Done) l) (sym own) step))

  -- the link failed
  pub came-fault : LinkStep k (ReceivesOn port, Failed) l
      → GoesOnTo seen may_leave moment left_since c snap most f n (outside k s o h) d (Say (fault_line p ++ recv_line p count) ∷ ts)
      (outside l s o h) d r
  came-fault step = on-still seen may_leave moment left_since only_now snap most f r n (outside k s o h) (outside l s o h) d
      (Get p (suc left) count ∷ ts) (Say (fault_line p ++ recv_line p count) ∷ ts) is
      (gets-fault c snap most n p left count ts k l s o h (subst (λ (q : ℕ). LinkStep k (ReceivesOn q, Failed) l) (sym own) step))

  -- a datagram came
  pub came-one : (bytes : List ℕ) → LinkStep k (ReceivesOn port, Came bytes) l
      → GoesOnTo seen may_leave moment left_since c snap most f n (outside k s o h) d
      (after_came p (c.unseal p bytes) ++ (more_gets p left (count + 1) ++ ts)) (outside l s o h) d r
  came-one bytes step = on-still seen may_leave moment left_since only_now snap most f r n (outside k s o h) (outside l s o h) d
      (Get p (suc left) count ∷ ts) (after_came p (c.unseal p bytes) ++ (more_gets p left (count + 1) ++ ts)) is
      (gets-one c snap most n p left count ts k l s o h bytes (subst (λ (q : ℕ). LinkStep k (ReceivesOn q, Came bytes) l) (sym own) step))

  module _ {V : Type 0} (heard : V → List Asked → Type 0) (bytes : List ℕ) (step : LinkStep k (ReceivesOn port, Came bytes) l) (m : LinkSeen)
      (t : SinkSeen) (new : D) (service : V) where
    -- and what became of it
    pub one-taken : (r' : Running)
        → ((w : Node) → IsNode f (seen d) (may_leave d) r w (after_came p (c.unseal p bytes) ++ (more_gets p left (count + 1) ++ ts))
        → HeardBy heard service (λ i. GoesOnTo seen may_leave moment left_since c snap most f w (outside l s o h) d
        (more_gets p left (count + 1) ++ ts) (outside m t o i) new r'))
        → HeardBy heard service (λ i. GoesOnTo seen may_leave moment left_since c snap most f n (outside k s o h) d
        (more_gets p left (count + 1) ++ ts) (outside m t o i) new r')
    one-taken r' more =
        let first = came-one bytes step in
        let rest = more first.node first.is in
        record {
          history = rest.history;
          has = rest.has;
          holds = on-and-on seen may_leave moment left_since only_now snap most f c n (outside k s o h) (outside l s o h)
              (outside m t o rest.history) d d new (after_came p (c.unseal p bytes) ++ (more_gets p left (count + 1) ++ ts))
              (more_gets p left (count + 1) ++ ts) r r' first rest.holds;
        }

    pub one-stops : (why : Stop)
        → ((w : Node) → IsNode f (seen d) (may_leave d) r w (after_came p (c.unseal p bytes) ++ (more_gets p left (count + 1) ++ ts))
        → HeardBy heard service (λ i. StopsSo seen may_leave moment left_since c snap most f w (outside l s o h) d why (outside m t o i) new))
        → HeardBy heard service (λ i. StopsSo seen may_leave moment left_since c snap most f n (outside k s o h) d why (outside m t o i) new)
    one-stops why more =
        let first = came-one bytes step in
        let rest = more first.node first.is in
        record {
          history = rest.history;
          has = rest.has;
          holds = on-and-stops seen may_leave moment left_since only_now snap most f c n (outside k s o h) (outside l s o h)
              (outside m t o rest.history) d d new (after_came p (c.unseal p bytes) ++ (more_gets p left (count + 1) ++ ts)) r why first
              rest.holds;
        }
