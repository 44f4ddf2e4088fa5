-- Which faults of input and output stop a node, over a part of a run.
use Rattle.std.proofs.Common.{◌≡◌, inl, inr, ℕ, List, [], ◌∷◌, Option, Some, None, refl, sym, subst, ◌∙◌}
use Rattle.node_defs.specs.Lines.{Stop, ReadFailed, WriteFailed}
use Rattle.node_defs.specs.Casts.{Cast}
use Rattle.node_defs.specs.Nodes.{Node, Answer, Snapper, answered, run, calls}
use Rattle.node_traces.specs.Ways.{Through}
use Rattle.node_traces.specs.Outside.{SinkSeen, SinkStep, SinkAnswered, SourceSeen, SourceStep, SourceAnswered}
use Rattle.script_laws.specs.Faults.{ByCount}
use Rattle.script_laws.proofs.Calm.{Caused, still, goes-calm}
use Rattle.script_laws.proofs.Calls.{one-call}
use Rattle.script_laws.proofs.Rested.{ends-so, nothing-more}

-- ---- of a part of a run

later : (stopped : Option Stop) (why : Stop) (before mid now : ℕ) → mid ≡ before → ByCount stopped why mid now → ByCount stopped why before now
later stopped why before mid now same by = subst (λ (k : ℕ). ByCount stopped why k now) same by

pub steady : (stopped : Option Stop) (why : Stop) (before now : ℕ) → stopped ≡ None → ByCount stopped why before now → now ≡ before
steady stopped why before now runs (inl bad) = let none : None ≡ Some why = sym runs ∙ bad.0 in absurd cc
steady stopped why before now runs (inr fine) = fine.1

module _ (c : Cast) (snap : Snapper) (most : ℕ) where
  -- after one answer, by what the others cause where the node runs on
  goes-on : (a : Answer) (more : List Answer) (n : Node) (k l : SinkSeen) (s t : SourceSeen) (k' : SinkSeen) (s' : SourceSeen)
      → SinkAnswered k' (calls c snap (answered c snap n a) more) l → SourceAnswered most s' (calls c snap (answered c snap n a) more) t
      → ((answered c snap n a).stopped ≡ None → Caused (run c snap (answered c snap n a) more).stopped k' l s' t)
      → Caused (answered c snap n a).stopped k k' s s' → Caused (run c snap (answered c snap n a) more).stopped k l s t
  goes-on a more n k l s t k' s' sink source rest first = of m.stopped refl
    where
      m : Node
      m = answered c snap n a

      of : (stopped : Option Stop) → m.stopped ≡ stopped → Caused (run c snap m more).stopped k l s t
      of None is =
          let others = rest is in
          let end = (run c snap m more).stopped in (
            later end WriteFailed k.faults k'.faults l.faults (steady m.stopped WriteFailed k.faults k'.faults is first.0) others.0,
            later end ReadFailed s.faults s'.faults t.faults (steady m.stopped ReadFailed s.faults s'.faults is first.1) others.1,
            others.2,
          )
      of (Some why) is =
          let sinks : k' ≡ l = nothing-more c snap why SinkStep (λ x y b e. e) m more k' l is sink in
          let sources : s' ≡ t = nothing-more c snap why (SourceStep most) (λ x y b e. e) m more s' t is source in
          subst (λ (w : Node). Caused w.stopped k l s t) (sym (ends-so c snap why m more is))
          (subst (λ (x : SinkSeen). Caused m.stopped k x s t) sinks
          (subst (λ (x : SourceSeen). Caused m.stopped k k' s x) sources first))

  pub whole : (answers : List Answer) (n : Node) (k l : SinkSeen) (s t : SourceSeen) → n.stopped ≡ None
      → SinkAnswered k (calls c snap n answers) l → SourceAnswered most s (calls c snap n answers) t
      → Caused (run c snap n answers).stopped k l s t
  unfolding run calls Through
  whole [] n k l s t runs sink source =
      subst (λ (stopped : Option Stop). Caused stopped k l s t) (sym runs) (still None k l s t goes-calm sink source)
  whole (a ∷ more) n k l s t runs sink source =
      let m : Node = answered c snap n a in
      goes-on a more n k l s t sink.0 source.0 sink.2 source.2
      (λ is. whole more m sink.0 l source.0 t is sink.2 source.2) (one-call c snap most n k sink.0 s source.0 a runs sink.1 source.1)
