-- Which faults stop a node, call by call.
use Rattle.std.proofs.Common.{◌≡◌, inl, inr, ℕ, suc, zero, ◌+◌, ◌==◌, List, [], ◌∷◌, ◌++◌, Option, None, refl, sym, subst}
use Rattle.node_defs.specs.Scripts.{line_said, most_lines}
use Rattle.node_defs.specs.Casts.{Cast, outcome_of}
use Rattle.node_defs.specs.Nodes.{Node, Opening, Bind, Greet, Serve, Finish, Leaving, Sends, Notes, Task, Take, Append, Flush, Say, Ask, Get, Word, Post, Mark, Answer, Done, Failed, Unremembered, Came, Broken, Said, Named, Digest, Snapper, after_task, after_leaving, after_read, call_of, answered}
use Rattle.node_traces.specs.Outside.{SinkSeen, SinkStep, SourceSeen, SourceStep, AtEnd}
use Rattle.script_laws.proofs.Calm.{Caused, calm, same-sink, same-source, still, goes-calm, write-failed, no-memory, step-calm, line-calm}

-- ---- each call

-- the node that runs and has this to do
abbrev pub at : Node → List Opening → List Leaving → List Task → Node
at n os ls ts = record n { stopped = None; opening = os; leaving = ls; tasks = ts }

module _ (c : Cast) (snap : Snapper) (most : ℕ) (n : Node) (k l : SinkSeen) (s t : SourceSeen) where
  -- of this answer to the node's next call
  abbrev Is : Node → Answer → Type 0
  Is m a = SinkStep k (call_of c m, a) l → SourceStep most s (call_of c m, a) t → Caused (answered c snap m a).stopped k l s t

  by-opening : (o : Opening) (os : List Opening) (ls : List Leaving) (ts : List Task) (a : Answer) → Is (at n (o ∷ os) ls ts) a
  unfolding call_of answered
  by-opening o os ls ts Unremembered sink source = no-memory most k l s t (call_of c (at n (o ∷ os) ls ts)) sink source
  by-opening (Bind port) os ls ts Failed sink source = still _ k l s t ((λ e. absurd cc), (λ e. absurd cc), (λ e. absurd cc)) sink source
  by-opening (Bind port) os ls ts _ sink source = still None k l s t goes-calm sink source
  by-opening (Greet text) os ls ts Done sink source = calm None k l s t goes-calm sink.steady (same-source s t source)
  by-opening (Greet text) os ls ts Failed sink source = write-failed k l s t text sink source
  by-opening (Greet text) os ls ts _ sink source = still None k l s t goes-calm sink source
  by-opening Serve os ls ts (Said text sends) sink source = still None k l s t goes-calm sink source
  by-opening Serve os ls ts _ sink source = still None k l s t goes-calm sink source
  by-opening Finish os ls ts Failed sink source = still _ k l s t ((λ e. absurd cc), (λ e. absurd cc), (λ e. absurd cc)) sink source
  by-opening Finish os ls ts _ sink source = still None k l s t goes-calm sink source

  by-leaving : (o : Leaving) (ls : List Leaving) (ts : List Task) (a : Answer) → Is (at n [] (o ∷ ls) ts) a
  unfolding call_of answered after_leaving
  by-leaving o ls ts Unremembered sink source = no-memory most k l s t (call_of c (at n [] (o ∷ ls) ts)) sink source
  by-leaving (Sends p q frame) ls ts Done sink source = still None k l s t goes-calm sink source
  by-leaving (Sends p q frame) ls ts _ sink source = still None k l s t goes-calm sink source
  by-leaving (Notes p note) ls ts (Said text sends) sink source = still None k l s t goes-calm sink source
  by-leaving (Notes p note) ls ts _ sink source = still None k l s t goes-calm sink source

  by-get : (p : ℕ) (most_gets count : ℕ) (ts : List Task) (a : Answer) → Is (at n [] [] (Get p most_gets count ∷ ts)) a
  unfolding call_of answered after_task
  by-get p m count ts Unremembered sink source = no-memory most k l s t (call_of c (at n [] [] (Get p m count ∷ ts))) sink source
  by-get p zero count ts Done sink source = still None k l s t goes-calm sink source
  by-get p zero count ts _ sink source = still None k l s t goes-calm sink source
  by-get p (suc m) count ts Done sink source = still None k l s t goes-calm sink source
  by-get p (suc m) count ts Failed sink source = still None k l s t goes-calm sink source
  by-get p (suc m) count ts (Came bytes) sink source = still None k l s t goes-calm sink source
  by-get p (suc m) count ts _ sink source = still None k l s t goes-calm sink source

  by-write : (text : List ℕ) (ts : List Task) (a : Answer) → Is (at n [] [] (Say text ∷ ts)) a × Is (at n [] [] (Flush ∷ ts)) a
  unfolding call_of answered after_task
  by-write text ts Unremembered = (
    (λ sink source. no-memory most k l s t (call_of c (at n [] [] (Say text ∷ ts))) sink source),
    (λ sink source. no-memory most k l s t (call_of c (at n [] [] (Flush ∷ ts))) sink source),
  )
  by-write text ts Done = (
    (λ sink source. calm None k l s t goes-calm sink.steady (same-source s t source)),
    (λ sink source. calm None k l s t goes-calm sink.steady (same-source s t source)),
  )
  by-write text ts Failed =
      ((λ sink source. write-failed k l s t text sink source), (λ sink source. write-failed k l s t (n.text ++ n.late) sink source))
  by-write text ts _ =
      ((λ sink source. still None k l s t goes-calm sink source), (λ sink source. still None k l s t goes-calm sink source))

  by-task : (task : Task) (ts : List Task) (a : Answer) → Is (at n [] [] (task ∷ ts)) a
  unfolding call_of answered after_task
  by-task (Flush) ts a sink source = (by-write [] ts a).1 sink source
  by-task (Say text) ts a sink source = (by-write text ts a).0 sink source
  by-task (Get p m count) ts a sink source = by-get p m count ts a sink source
  by-task task ts Unremembered sink source = no-memory most k l s t (call_of c (at n [] [] (task ∷ ts))) sink source
  by-task (Take p e) ts Done sink source =
      still _ k l s t (step-calm c (at n [] [] (Take p e ∷ ts)) p e (outcome_of c (n.now p) e).verdict) sink source
  by-task (Take p e) ts _ sink source = still None k l s t goes-calm sink source
  by-task (Append p e) ts Done sink source = still None k l s t goes-calm sink source
  by-task (Append p e) ts Failed sink source = still _ k l s t ((λ e. absurd cc), (λ e. absurd cc), (λ e. absurd cc)) sink source
  by-task (Append p e) ts _ sink source = still None k l s t goes-calm sink source
  by-task (Ask p e notes above) ts Done sink source = still None k l s t goes-calm sink source
  by-task (Ask p e notes above) ts (Named q) sink source = still None k l s t goes-calm sink source
  by-task (Ask p e notes above) ts _ sink source = still None k l s t goes-calm sink source
  by-task (Word p line) ts (Said text sends) sink source = still None k l s t goes-calm sink source
  by-task (Word p line) ts Done sink source = still _ k l s t ((λ e. absurd cc), (λ e. absurd cc), (λ e. absurd cc)) sink source
  by-task (Word p line) ts _ sink source = still None k l s t goes-calm sink source
  by-task (Post p q frame) ts Done sink source = still None k l s t goes-calm sink source
  by-task (Post p q frame) ts Failed sink source = still None k l s t goes-calm sink source
  by-task (Post p q frame) ts _ sink source = still None k l s t goes-calm sink source
  by-task Mark ts (Digest digest) sink source = still None k l s t goes-calm sink source
  by-task Mark ts Failed sink source = still _ k l s t ((λ e. absurd cc), (λ e. absurd cc), (λ e. absurd cc)) sink source
  by-task Mark ts _ sink source = still None k l s t goes-calm sink source

  by-read : (a : Answer) → Is (at n [] [] []) a
  unfolding call_of answered after_read
  by-read Unremembered sink source = no-memory most k l s t (call_of c (at n [] [] [])) sink source
  by-read Done sink source = (
    inr ((λ e. absurd cc), same-sink k l sink),
    inr ((λ e. absurd cc), source.steady),
    (λ e. subst (λ (left : Option (List ℕ)). AtEnd left) (sym source.left) source.ended),
  )
  by-read Failed sink source = (inr ((λ e. absurd cc), same-sink k l sink), inl (refl, source.rose), (λ e. absurd cc))
  by-read Broken sink source = calm _ k l s t ((λ e. absurd cc), (λ e. absurd cc), (λ e. absurd cc)) (same-sink k l sink) source.steady
  by-read (Came line) sink source =
      calm _ k l s t (line-calm (at n [] [] []) line (n.script == most_lines) (line_said c.hosted line)) (same-sink k l sink) source.steady
  by-read _ sink source = still None k l s t goes-calm sink source

  by-any : (os : List Opening) (ls : List Leaving) (ts : List Task) (a : Answer) → Is (at n os ls ts) a
  by-any (o ∷ os) ls ts a = by-opening o os ls ts a
  by-any [] (x ∷ ls) ts a = by-leaving x ls ts a
  by-any [] [] (x ∷ ts) a = by-task x ts a
  by-any [] [] [] a = by-read a

  -- of a node that runs
  pub one-call : (a : Answer) → n.stopped ≡ None → Is n a
  one-call a runs = subst (λ (m : Node). Is m a) (λ i. record n { stopped = sym runs i }) (by-any n.opening n.leaving n.tasks a)
