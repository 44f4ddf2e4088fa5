-- Runs and what their calls did, joined.
use Rattle.std.proofs.Common.{List, [], ◌∷◌, ◌++◌, refl, sym, ap, subst}
use Rattle.node_defs.specs.Nodes.{Call, Answer, answered, call_of, run, calls}
use Rattle.node_traces.specs.Ways.{Step, Through, EachGoesOn}
use Rattle.node_traces.specs.Outside.{LinkStep, SinkStep, SourceStep, DoneInARow}

pub one-after-the-other : {X : Type 0} (R : Step X) (x y z : X) (cs ds : List (Call × Answer)) → Through R x cs y → Through R y ds z
    → Through R x (cs ++ ds) z
unfolding Through
one-after-the-other {X} R x y z [] ds first more = subst (λ (w : X). Through R w ds z) (sym first) more
one-after-the-other R x y z (c ∷ cs) ds first more =
    (first.0, first.1, one-after-the-other R first.0 y z cs ds first.2 more)

pub each_goes_on : EachGoesOn
unfolding run calls
each_goes_on c snap n [] more = record { run_is = refl; calls_are = refl }
each_goes_on c snap n (a ∷ first) more =
    let rest = each_goes_on c snap (answered c snap n a) first more in
    record { run_is = rest.run_is; calls_are = ap (λ cs. (call_of c n, a) ∷ cs) rest.calls_are }

-- calls that leave the thing as it is
pub nothing-done : {X : Type 0} (R : Step X) (x : X) (cs : List (Call × Answer)) → ((i : Call × Answer) → R x i x) → Through R x cs x
unfolding Through
nothing-done R x [] each = refl
nothing-done R x (c ∷ cs) each = (x, each c, nothing-done R x cs each)

pub done_in_a_row : DoneInARow
done_in_a_row = record {
  link = one-after-the-other LinkStep;
  sink = one-after-the-other SinkStep;
  source = λ most. one-after-the-other (SourceStep most);
}
