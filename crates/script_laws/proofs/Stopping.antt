-- Which faults stop a node.
use Rattle.std.proofs.Common.{◌≡◌, inr, ℕ, Option, Some, None, refl, sym, ap, subst, ◌∙◌}
use Rattle.node_defs.specs.Lines.{Stop}
use Rattle.node_defs.specs.Casts.{Cast}
use Rattle.node_defs.specs.Nodes.{Node, Snapper}
use Rattle.node_traces.specs.Outside.{SinkStep, SourceStep}
use Rattle.node_traces.specs.Goes.{Outside, Goes}
use Rattle.script_laws.specs.Faults.{HasCauses, HasNotFailed, FaultsStop}
use Rattle.script_laws.proofs.Rested.{ends-so, nothing-more}
use Rattle.script_laws.proofs.Parts.{whole}
use Rattle.script_laws.proofs.Binding.{binds-all}

module _ (c : Cast) (snap : Snapper) (most : ℕ) (n m : Node) (x y : Outside) (went : Goes c snap most n x m y) where
  -- of a node that ran
  ran : n.stopped ≡ None → HasCauses m.stopped x y
  ran runs =
      let causes = whole c snap most went.answers n x.sink y.sink x.source y.source runs went.sink went.source in
      let bound = binds-all c snap went.answers n x.link y.link runs went.link in
      subst (λ (w : Node). HasCauses w.stopped x y) (sym went.becomes)
      (record { read = causes.1; written = causes.0; bound = bound; ended = causes.2 })

  -- of one that had stopped before
  rested : (why : Stop) → n.stopped ≡ Some why → HasNotFailed n.stopped → HasCauses m.stopped x y
  rested why stops not =
      let same : m ≡ n = went.becomes ∙ ends-so c snap why n went.answers stops in
      let sinks = nothing-more c snap why SinkStep (λ k l b e. e) n went.answers x.sink y.sink stops went.sink in
      let sources = nothing-more c snap why (SourceStep most) (λ k l b e. e) n went.answers x.source y.source stops went.source in
      subst (λ (w : Node). HasCauses w.stopped x y) (sym same) (record {
        read = inr (not.no_read, sym (ap (λ k. k.faults) sources));
        written = inr (not.no_write, sym (ap (λ k. k.faults) sinks));
        bound = λ e. absurd (not.no_bind e);
        ended = λ e. absurd (not.no_end e);
      })

pub faults_stop : FaultsStop
faults_stop c snap most n m x y went not = of n.stopped refl
  where
    of : (stopped : Option Stop) → n.stopped ≡ stopped → HasCauses m.stopped x y
    of None is = ran c snap most n m x y went is
    of (Some why) is = rested c snap most n m x y went why is not
