-- A node that reads a line, and what it is after the answer.
use Rattle.std.proofs.Common.{◌≡◌, ◌≢◌, ◌⊎◌, inl, inr, ℕ, ◌+◌, ◌==◌, Bool, true, false, if◌then◌else◌, List, [], Option, Some, None, refl, sym, ap, subst, ◌∙◌, append-nil, add-zero}
use Rattle.std.proofs.lemmas.Bool.{ne_eqb}
use Rattle.std.proofs.lemmas.Bool.Decides.{eqb_tells}
use Rattle.node_defs.specs.Scripts.{Line, line_said, most_lines}
use Rattle.node_defs.specs.Lines.{Stop, Ended, NoMemory, ReadFailed, BadLine}
use Rattle.node_defs.specs.Casts.{Cast}
use Rattle.node_defs.specs.Nodes.{Node, Snapper, Answer, Done, Failed, Unremembered, Came, Broken, Change, ends, tasks_of_line, after_line, after_read, if_fits, counts, call_of, answered}
use Rattle.node_traces.specs.Outside.{SourceSeen, SourceTook}
use Rattle.node_traces.specs.Goes.{Outside, Goes, Does}
use Rattle.node_traces.proofs.Going.{one_answer_goes}
use Rattle.script_laws.specs.Script.{StopsWith, with_line, with_source, IsNoLine, EachReads, ReadsInOrder}

-- the node at its next read
abbrev reading : Node → Node
reading n = record n { stopped = None; opening = []; leaving = []; tasks = [] }

-- one answer to the read
one-read : (c : Cast) (snap : Snapper) (most : ℕ) (n : Node) (a : Answer) (x : Outside) (source : SourceSeen)
    → Does c most (reading n) a x (with_source x source) → Goes c snap most (reading n) x (answered c snap (reading n) a) (with_source x source)
one-read c snap most n a x source does = one_answer_goes c snap most (reading n) a x (with_source x source) does

-- what comes of a line, by whether too many came before it and by what it asks for
abbrev came_by : Node → List ℕ → Bool → Option Line → Change
came_by n line many said = if many then ends n [] (BadLine (n.lines + 1)) else after_line n line said

after-came : (c : Cast) (n : Node) (line : List ℕ) (many : Bool) (said : Option Line) → (n.script == most_lines) ≡ many
    → line_said c.hosted line ≡ said → after_read c n (Came line) ≡ Some (came_by n line many said)
unfolding after_read
after-came c n line many said count is =
    ap (λ (t : Bool). Some (came_by n line t (line_said c.hosted line))) count
    ∙ ap (λ (s : Option Line). Some (came_by n line many s)) is

answered-came : (c : Cast) (snap : Snapper) (n : Node) (line : List ℕ) (many : Bool) (said : Option Line) → (n.script == most_lines) ≡ many
    → line_said c.hosted line ≡ said → answered c snap (reading n) (Came line)
    ≡ counts (if_fits c (reading n) [] [] (Some (came_by (reading n) line many said))) (Came line)
unfolding answered
answered-came c snap n line many said count is =
    ap (λ (x : Option Change). counts (if_fits c (reading n) [] [] x) (Came line)) (after-came c (reading n) line many said count is)

goes-on : (c : Cast) (n : Node) (line : List ℕ) (said : Line)
    → counts (if_fits c (reading n) [] [] (Some (came_by (reading n) line false (Some said)))) (Came line)
    ≡ with_line (reading n) (tasks_of_line line said)
goes-on c n line said = λ i. record n {
  kept = append-nil n.kept i;
  gate = add-zero n.gate i;
  lines = n.lines + 1;
  script = n.script + 1;
  stopped = None;
  opening = [];
  leaving = [];
  tasks = append-nil (tasks_of_line line said) i;
}

module _ (c : Cast) (snap : Snapper) (most : ℕ) (n : Node) (x : Outside) where
  does-came : (line : List ℕ) (source : SourceSeen) → SourceTook most x.source source line
      → Does c most (reading n) (Came line) x (with_source x source)
  unfolding call_of
  does-came line source took = record { link = refl; sink = refl; source = took; service = sym (append-nil x.service) }

  took-one : (line : List ℕ) (said : Line) (source : SourceSeen) → SourceTook most x.source source line → n.script ≢ most_lines
      → line_said c.hosted line ≡ Some said
      → Goes c snap most (reading n) x (with_line (reading n) (tasks_of_line line said)) (with_source x source)
  took-one line said source took few is =
      subst (λ (m : Node). Goes c snap most (reading n) x m (with_source x source))
      (answered-came c snap n line false (Some said) (ne_eqb n.script most_lines few) is ∙ goes-on c n line said)
      (one-read c snap most n (Came line) x source (does-came line source took))

  keeps-all : (o : Option Line) (many : Bool) (line : List ℕ) → (many ≡ true) ⊎ (o ≡ None)
      → (counts (if_fits c (reading n) [] [] (Some (came_by (reading n) line many o))) (Came line)).kept ≡ n.kept
  keeps-all o true line none = append-nil n.kept
  keeps-all None false line none = append-nil n.kept
  keeps-all (Some said) false line (inl many) = absurd cc
  keeps-all (Some said) false line (inr none) = absurd cc

  stops-for : (o : Option Line) (many : Bool) (line : List ℕ) → (many ≡ true) ⊎ (o ≡ None)
      → (counts (if_fits c (reading n) [] [] (Some (came_by (reading n) line many o))) (Came line)).stopped ≡ Some (BadLine (n.lines + 1))
  stops-for o true line none = refl
  stops-for None false line none = refl
  stops-for (Some said) false line (inl many) = absurd cc
  stops-for (Some said) false line (inr none) = absurd cc

  not-one : (line : List ℕ) → IsNoLine c n line → ((n.script == most_lines) ≡ true) ⊎ (line_said c.hosted line ≡ None)
  not-one line (inl many) = elim (eqb_tells n.script most_lines) [ inl same ↦ inl same.0 | inr other ↦ absurd (other.1 many) ]
  not-one line (inr none) = inr none

  refused-one : (line : List ℕ) (source : SourceSeen) → SourceTook most x.source source line → IsNoLine c n line
      → StopsWith c snap most (reading n) x (BadLine (n.lines + 1)) (with_source x source)
  refused-one line source took none =
      let is = answered-came c snap n line (n.script == most_lines) (line_said c.hosted line) refl refl in record {
        last = answered c snap (reading n) (Came line);
        stops = ap (λ (m : Node). m.stopped) is
            ∙ stops-for (line_said c.hosted line) (n.script == most_lines) line (not-one line none);
        kept = ap (λ (m : Node). m.kept) is
            ∙ keeps-all (line_said c.hosted line) (n.script == most_lines) line (not-one line none);
        goes = one-read c snap most n (Came line) x source (does-came line source took);
      }

  stops-by : (a : Answer) (why : Stop) (source : SourceSeen) → (answered c snap (reading n) a).stopped ≡ Some why
      → (answered c snap (reading n) a).kept ≡ n.kept → Does c most (reading n) a x (with_source x source)
      → StopsWith c snap most (reading n) x why (with_source x source)
  stops-by a why source stops kept does = record {
    last = answered c snap (reading n) a;
    stops = stops;
    kept = kept;
    goes = one-read c snap most n a x source does;
  }

  each-reading : EachReads c snap most (reading n) x
  unfolding answered after_read call_of
  each-reading =
      let same = append-nil n.kept in
      let heard = sym (append-nil x.service) in record {
        took = took-one;
        refused = refused-one;
        broken = λ source broke. stops-by Broken (BadLine (n.lines + 1)) source refl same
            (record { link = refl; sink = refl; source = broke; service = heard });
        ended = λ source ended. stops-by Done Ended source refl same (record { link = refl; sink = refl; source = ended; service = heard });
        failed = λ source failed. stops-by Failed ReadFailed source refl same
            (record { link = refl; sink = refl; source = failed; service = heard });
        unremembered = stops-by Unremembered NoMemory x.source refl refl
            (record { link = refl; sink = refl; source = refl; service = heard });
      }

pub reads_in_order : ReadsInOrder
reads_in_order c snap most n x is =
    let same : reading n ≡ n = λ i. record n {
      stopped = sym is.runs i;
      opening = sym is.opened i;
      leaving = sym is.leaving i;
      tasks = sym is.tasks i;
    } in
    subst (λ (m : Node). EachReads c snap most m x) same (each-reading c snap most n x)
