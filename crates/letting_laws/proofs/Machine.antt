-- A node that lets its turn out, answer by answer.
use Rattle.std.proofs.Common.{◌≡◌, ℕ, List, [], ◌∷◌, ◌++◌, None, refl, sym, ap, ◌∙◌, add-zero}
use Rattle.std.specs.Prelude.{flat_map, zip}
use Rattle.std.specs.List.{AllZip}
use Rattle.std.proofs.lemmas.List.{append-nil, append_assoc}
use Rattle.node_defs.specs.Casts.{Cast}
use Rattle.node_defs.specs.Lines.{note_line, fault_line}
use Rattle.node_defs.specs.Nodes.{Leaving, Sends, Notes, Call, leaving_call, Answer, Done, Failed, Said, Node, Snapper, call_of, after_leaving, answered, run, calls}
use Rattle.node_traces.specs.Service.{Asked, asking, hears, asked_by}
use Rattle.letting_laws.specs.Letting.{Fits, asked, reported_by, failed_by, EachLetsOut}

-- the node, open and running, with this to let out
abbrev letting : Node → List Leaving → Node
letting n ls = record n { stopped = None; opening = []; leaving = ls }

-- with these lines after those that wait
abbrev with_lines : Node → List ℕ → List ℕ → Node
with_lines n text late = record n { text = n.text ++ text; late = n.late ++ late }

answered-so : (c : Cast) (snap : Snapper) (n : Node) (ls : List Leaving) (l : Leaving) (a : Answer) → Fits l a
    → answered c snap (letting n (l ∷ ls)) a ≡ letting (with_lines n (reported_by (l, a)) (failed_by (l, a))) ls
unfolding answered after_leaving
answered-so c snap n ls (Sends p q frame) Done fits = λ i. record n {
  kept = append-nil n.kept i;
  gate = add-zero n.gate i;
  stopped = None;
  opening = [];
  leaving = append-nil ls i;
  text = sym (append-nil n.text) i;
  late = sym (append-nil n.late) i;
}
answered-so c snap n ls (Sends p q frame) Failed fits = λ i. record n {
  kept = append-nil n.kept i;
  gate = add-zero n.gate i;
  stopped = None;
  opening = [];
  leaving = append-nil ls i;
  text = sym (append-nil n.text) i;
  late = n.late ++ fault_line p;
}
answered-so c snap n ls (Notes p note) (Said text sends) fits = λ i. record n {
  kept = append-nil n.kept i;
  gate = add-zero n.gate i;
  stopped = None;
  opening = [];
  leaving = append-nil ls i;
  text = append_assoc n.text (note_line p note) text i;
  late = sym (append-nil n.late) i;
}
answered-so c snap n ls _ _ fits = absurd fits

asks-so : (c : Cast) (n : Node) (ls : List Leaving) (l : Leaving) → call_of c (letting n (l ∷ ls)) ≡ leaving_call c l
unfolding call_of
asks-so c n ls l = refl

lines-more : (n : Node) (t u more late : List ℕ) (others : List Leaving)
    → letting (with_lines (with_lines n t u) more late) others ≡ letting (with_lines n (t ++ more) (u ++ late)) others
lines-more n t u more late others = λ i. record n {
  stopped = None;
  opening = [];
  leaving = others;
  text = append_assoc n.text t more i;
  late = append_assoc n.late u late i;
}

calls-so : (c : Cast) (snap : Snapper) (n : Node) (ls others : List Leaving) (answers : List Answer) → AllZip Fits ls answers
    → calls c snap (letting n (ls ++ others)) answers ≡ asked c ls answers
unfolding calls
calls-so c snap n [] others [] each = refl
calls-so c snap n [] others (a ∷ more) each = absurd each
calls-so c snap n (l ∷ ls) others [] each = absurd each
calls-so c snap n (l ∷ ls) others (a ∷ more) each =
    ap (λ (call : Call). (call, a) ∷ calls c snap (answered c snap (letting n (l ∷ ls ++ others)) a) more) (asks-so c n (ls ++ others) l)
    ∙ ap (λ (cs : List (Call × Answer)). (leaving_call c l, a) ∷ cs)
    (ap (λ (m : Node). calls c snap m more) (answered-so c snap n (ls ++ others) l a each.0)
    ∙ calls-so c snap (with_lines n (reported_by (l, a)) (failed_by (l, a))) ls others more each.1)

run-so : (c : Cast) (snap : Snapper) (n : Node) (ls others : List Leaving) (answers : List Answer) → AllZip Fits ls answers
    → run c snap (letting n (ls ++ others)) answers
    ≡ letting (with_lines n (flat_map reported_by (zip ls answers)) (flat_map failed_by (zip ls answers))) others
unfolding run
run-so c snap n [] others [] each = λ i. record n {
  stopped = None;
  opening = [];
  leaving = others;
  text = sym (append-nil n.text) i;
  late = sym (append-nil n.late) i;
}
run-so c snap n [] others (a ∷ more) each = absurd each
run-so c snap n (l ∷ ls) others [] each = absurd each
run-so c snap n (l ∷ ls) others (a ∷ more) each =
    ap (λ (m : Node). run c snap m more) (answered-so c snap n (ls ++ others) l a each.0)
    ∙ run-so c snap (with_lines n (reported_by (l, a)) (failed_by (l, a))) ls others more each.1
    ∙ lines-more n (reported_by (l, a)) (failed_by (l, a)) (flat_map reported_by (zip ls more)) (flat_map failed_by (zip ls more)) others

heard-so : (c : Cast) (snap : Snapper) (n : Node) (ls others : List Leaving) (answers : List Answer) → AllZip Fits ls answers
    → asked_by c snap (letting n (ls ++ others)) answers ≡ hears c n.now (asked c ls answers)
unfolding asked_by
heard-so c snap n [] others [] each = refl
heard-so c snap n [] others (a ∷ more) each = absurd each
heard-so c snap n (l ∷ ls) others [] each = absurd each
heard-so c snap n (l ∷ ls) others (a ∷ more) each =
    ap (λ (call : Call). asking c n.now call a ++ asked_by c snap (answered c snap (letting n (l ∷ ls ++ others)) a) more)
    (asks-so c n (ls ++ others) l)
    ∙ ap (λ (h : List Asked). asking c n.now (leaving_call c l) a ++ h)
    (ap (λ (m : Node). asked_by c snap m more) (answered-so c snap n (ls ++ others) l a each.0)
    ∙ heard-so c snap (with_lines n (reported_by (l, a)) (failed_by (l, a))) ls others more each.1)

pub each_lets_out : EachLetsOut
each_lets_out c snap n first others answers is each =
    let same : n ≡ letting n (first ++ others) = λ i. record n { stopped = is.runs i; opening = is.ready i; leaving = is.leaving i } in
    record {
      calls_are = ap (λ (m : Node). calls c snap m answers) same ∙ calls-so c snap n first others answers each;
      asked_are = ap (λ (m : Node). asked_by c snap m answers) same ∙ heard-so c snap n first others answers each;
      run_is = ap (λ (m : Node). run c snap m answers) same ∙ run-so c snap n first others answers each ∙ back;
    }
  where
    back : letting (with_lines n (flat_map reported_by (zip first answers)) (flat_map failed_by (zip first answers))) others
        ≡ record n {
          leaving = others;
          text = n.text ++ flat_map reported_by (zip first answers);
          late = n.late ++ flat_map failed_by (zip first answers);
        }
    back = λ i. record n {
      stopped = sym is.runs i;
      opening = sym is.ready i;
      leaving = others;
      text = n.text ++ flat_map reported_by (zip first answers);
      late = n.late ++ flat_map failed_by (zip first answers);
    }
