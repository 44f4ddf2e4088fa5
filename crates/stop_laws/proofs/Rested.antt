-- A node that has stopped.
use Rattle.std.proofs.Common.{◌≡◌, List, [], ◌∷◌, Option, Some, None, refl, ap, subst, ◌∙◌}
use Rattle.node_defs.specs.Lines.{Stop}
use Rattle.node_defs.specs.Casts.{Cast}
use Rattle.node_defs.specs.Nodes.{Node, Opening, Leaving, Task, Call, Rests, Answer, Snapper, call_of, call_of_opening, answered, unless_stopped, run, calls}
use Rattle.node_traces.specs.Ways.{Step, Through}

-- the node that runs and has this to do
abbrev pub at : Node → List Opening → List Leaving → List Task → Node
at n os ls ts = record n { stopped = None; opening = os; leaving = ls; tasks = ts }

-- ---- of one that has stopped

rests : (c : Cast) (n : Node) (why : Stop) → n.stopped ≡ Some why → call_of c n ≡ Rests
unfolding call_of
rests c n why stops =
    ap (λ (s : Option Stop). elim s as (λ _. Call) [ Some w ↦ Rests | None ↦ call_of_opening c n n.opening ]) stops

stays : (c : Cast) (snap : Snapper) (n : Node) (why : Stop) (a : Answer) → n.stopped ≡ Some why → answered c snap n a ≡ n
unfolding answered
stays c snap n why a stops = ap (unless_stopped c snap n a) stops

-- it makes no call, and stays as it is
module _ (c : Cast) (snap : Snapper) (why : Stop) where
  pub ends-so : (n : Node) (more : List Answer) → n.stopped ≡ Some why → run c snap n more ≡ n
  unfolding run
  ends-so n [] stops = refl
  ends-so n (a ∷ more) stops =
      let same = stays c snap n why a stops in
      ap (λ (m : Node). run c snap m more) same ∙ ends-so n more stops

  pub nothing-more : {X : Type 0} (R : Step X) → ((x y : X) (a : Answer) → R x (Rests, a) y → x ≡ y) → (n : Node) (more : List Answer) (x y : X)
      → n.stopped ≡ Some why → Through R x (calls c snap n more) y → x ≡ y
  unfolding calls Through
  nothing-more R quiet n [] x y stops through = through
  nothing-more {X} R quiet n (a ∷ more) x y stops through =
      let same = stays c snap n why a stops in
      let first = quiet x through.0 a (subst (λ (call : Call). R x (call, a) through.0) (rests c n why stops) through.1) in
      first ∙ nothing-more R quiet n more through.0 y stops
      (subst (λ (m : Node). Through R through.0 (calls c snap m more) y) same through.2)
