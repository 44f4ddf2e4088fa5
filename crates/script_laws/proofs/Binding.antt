-- A bind that fails stops a node, and no call of the link has failed before it.
use Rattle.std.proofs.Common.{◌≡◌, inl, inr, ℕ, List, [], ◌∷◌, Option, Some, None, refl, sym, ap, subst, ◌∙◌}
use Rattle.rp_base.specs.Causes.{Rose}
use Rattle.node_defs.specs.Lines.{Stop, BindFailed}
use Rattle.node_defs.specs.Casts.{Cast}
use Rattle.node_defs.specs.Nodes.{Node, Opening, Answer, Snapper, goes, call_of, answered, run, calls}
use Rattle.node_traces.specs.Ways.{Through}
use Rattle.node_traces.specs.Outside.{LinkSeen, LinkStep, LinkAnswered}
use Rattle.script_laws.proofs.Calls.{at}
use Rattle.script_laws.proofs.Rested.{ends-so, nothing-more}
use Rattle.script_laws.proofs.Parts.{steady}
use Rattle.script_laws.proofs.Past.{Bound, binds-one, past-all}

-- the opening of a node goes on, or is over
module _ (c : Cast) (snap : Snapper) where
  after-bind : (n : Node) (more : List Answer) (k k' l : LinkSeen) (stopped : Option Stop) → n.stopped ≡ stopped → Bound n.stopped k k'
      → LinkAnswered k' (calls c snap n more) l → (run c snap n more).stopped ≡ Some BindFailed → (n.stopped ≡ None → Rose k'.faults l.faults)
      → Rose k.faults l.faults
  after-bind n more k k' l None is bound link stops rest =
      subst (λ (f : ℕ). Rose f l.faults) (steady n.stopped BindFailed k.faults k'.faults is bound) (rest is)
  after-bind n more k k' l (Some why) is bound link stops rest =
      let same : k' ≡ l = nothing-more c snap why LinkStep (λ x y b e. e) n more k' l is link in
      let here : n.stopped ≡ Some BindFailed = sym (ap (λ (m : Node). m.stopped) (ends-so c snap why n more is)) ∙ stops in
      subst (λ (x : LinkSeen). Rose k.faults x.faults) same (risen here bound)
    where
      risen : n.stopped ≡ Some BindFailed → Bound n.stopped k k' → Rose k.faults k'.faults
      risen here (inl bad) = bad.1
      risen here (inr fine) = absurd (fine.0 here)

  by-opening-of : (n : Node) (a : Answer) (more : List Answer) (k l k' : LinkSeen) (os : List Opening) → n.opening ≡ os → n.stopped ≡ None
      → LinkStep k (call_of c n, a) k' → LinkAnswered k' (calls c snap (answered c snap n a) more) l
      → (run c snap (answered c snap n a) more).stopped ≡ Some BindFailed
      → ((answered c snap n a).stopped ≡ None → Rose k'.faults l.faults) → Rose k.faults l.faults
  unfolding run
  by-opening-of n a more k l k' [] is runs step link stops rest = absurd (past-all c snap (a ∷ more) n runs is stops)
  by-opening-of n a more k l k' (o ∷ os) is runs step link stops rest =
      let same : at n (o ∷ os) n.leaving n.tasks ≡ n = λ i. record n { stopped = sym runs i; opening = sym is i } in
      let bound = subst (λ (m : Node). LinkStep k (call_of c m, a) k' → Bound (answered c snap m a).stopped k k') same
      (binds-one c snap n o os n.leaving n.tasks a k k') step in
      after-bind (answered c snap n a) more k k' l (answered c snap n a).stopped refl bound link stops rest

  pub binds-all : (answers : List Answer) (n : Node) (k l : LinkSeen) → n.stopped ≡ None → LinkAnswered k (calls c snap n answers) l
      → (run c snap n answers).stopped ≡ Some BindFailed → Rose k.faults l.faults
  unfolding run calls Through
  binds-all [] n k l runs link stops = let none : None ≡ Some BindFailed = sym runs ∙ stops in absurd cc
  binds-all (a ∷ more) n k l runs link stops =
      by-opening-of n a more k l link.0 n.opening refl runs link.1 link.2 stops (λ is. binds-all more (answered c snap n a) link.0 l is link.2 stops)
