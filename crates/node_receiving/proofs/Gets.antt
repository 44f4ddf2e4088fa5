-- A node that receives, answer by answer.
use Rattle.std.proofs.Common.{◌≡◌, ℕ, suc, ◌+◌, List, ◌∷◌, ◌++◌, refl, sym, ap, append_assoc, ◌∙◌}
use Rattle.node_defs.specs.Casts.{Cast}
use Rattle.node_defs.specs.Lines.{fault_line, recv_line}
use Rattle.node_defs.specs.Nodes.{Node, Task, Get, Say, Answer, Done, Failed, Came, ReceivesOn, Snapper, after_came, after_task, answered, call_of, more_gets}
use Rattle.node_traces.specs.Outside.{LinkSeen, LinkStep, SinkSeen, SourceSeen}
use Rattle.node_traces.specs.Service.{Asked}
use Rattle.node_traces.specs.Goes.{Does, Goes}
use Rattle.node_traces.proofs.Service.{asks-none}
use Rattle.node_taking.specs.Taking.{outside}
use Rattle.node_taking.specs.Keeping.{at}
use Rattle.node_taking.proofs.Machine.{answers, as-it-was}

module _ (c : Cast) (snap : Snapper) (most : ℕ) (n : Node) (p left count : ℕ) (ts : List Task) (k l : LinkSeen) (s : SinkSeen) (o : SourceSeen)
    (h : List Asked) where
  abbrev asking : Node
  asking = at n (Get p (suc left) count ∷ ts)

  gets-does : (a : Answer) → LinkStep k (ReceivesOn (c.port p), a) l → Does c most asking a (outside k s o h) (outside l s o h)
  unfolding call_of
  gets-does a step = record { link = step; sink = refl; source = refl; service = asks-none c n.now (ReceivesOn (c.port p)) a h refl }

  none-so : at n (Say (recv_line p count) ∷ ts) ≡ answered c snap asking Done
  unfolding answered after_task
  none-so = sym (as-it-was n (Say (recv_line p count) ∷ ts))

  failed-so : at n (Say (fault_line p ++ recv_line p count) ∷ ts) ≡ answered c snap asking Failed
  unfolding answered after_task
  failed-so = sym (as-it-was n (Say (fault_line p ++ recv_line p count) ∷ ts))

  came-so : (bytes : List ℕ)
      → at n ((after_came p (c.unseal p bytes) ++ more_gets p left (count + 1)) ++ ts) ≡ answered c snap asking (Came bytes)
  unfolding answered after_task
  came-so bytes = sym (as-it-was n ((after_came p (c.unseal p bytes) ++ more_gets p left (count + 1)) ++ ts))

  -- nothing is coming
  pub gets-none : LinkStep k (ReceivesOn (c.port p), Done) l
      → Goes c snap most asking (outside k s o h) (at n (Say (recv_line p count) ∷ ts)) (outside l s o h)
  gets-none step = answers c snap most asking (at n (Say (recv_line p count) ∷ ts)) Done (outside k s o h) (outside l s o h) none-so
      (gets-does Done step)

  -- the link failed
  pub gets-fault : LinkStep k (ReceivesOn (c.port p), Failed) l
      → Goes c snap most asking (outside k s o h) (at n (Say (fault_line p ++ recv_line p count) ∷ ts)) (outside l s o h)
  gets-fault step = answers c snap most asking (at n (Say (fault_line p ++ recv_line p count) ∷ ts)) Failed (outside k s o h) (outside l s o h)
      failed-so (gets-does Failed step)

  -- a datagram came
  pub gets-one : (bytes : List ℕ) → LinkStep k (ReceivesOn (c.port p), Came bytes) l
      → Goes c snap most asking (outside k s o h) (at n (after_came p (c.unseal p bytes) ++ (more_gets p left (count + 1) ++ ts))) (outside l s o h)
  gets-one bytes step =
      let us : List Task = after_came p (c.unseal p bytes) ++ (more_gets p left (count + 1) ++ ts) in
      answers c snap most asking (at n us) (Came bytes) (outside k s o h) (outside l s o h)
      (ap (at n) (sym (append_assoc (after_came p (c.unseal p bytes)) (more_gets p left (count + 1)) ts)) ∙ came-so bytes)
      (gets-does (Came bytes) step)
