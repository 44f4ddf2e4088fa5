-- What a line asks of the outside: of the service, or of the journal's digest.
use Rattle.std.proofs.Common.{◌≡◌, ℕ, List, [], ◌∷◌, ◌++◌, None, refl, sym, subst, append-nil, add-zero}
use Rattle.node_defs.specs.Lines.{BadLine}
use Rattle.node_defs.specs.Casts.{Cast}
use Rattle.node_defs.specs.Nodes.{Node, Task, Say, Flush, Word, Words, Mark, Marks, Snapper, Done, Said, post_tasks, after_task, call_of, answered}
use Rattle.node_traces.specs.Service.{asking}
use Rattle.node_traces.specs.Goes.{Outside, Goes, with_service}
use Rattle.node_traces.proofs.Going.{one_answer_goes}
use Rattle.script_laws.specs.Script.{HasToDo, StopsWith, AsksTheOutside}

-- the node, with this to do
abbrev doing : Node → List Task → Node
doing n ts = record n { stopped = None; opening = []; leaving = []; tasks = ts }

doing-so : (n : Node) (ts : List Task) → HasToDo n ts → doing n ts ≡ n
doing-so n ts is = λ i. record n {
  stopped = sym is.runs i;
  opening = sym is.opened i;
  leaving = sym is.leaving i;
  tasks = sym is.tasks i;
}

no-service : (c : Cast) (snap : Snapper) (most : ℕ) (n : Node) (x : Outside) (p : ℕ) (line : List ℕ) (ts : List Task)
    → StopsWith c snap most (doing n (Word p line ∷ ts)) x (BadLine n.lines) (with_service x (x.service ++ asking c n.now (Words p line) Done))
unfolding answered after_task call_of
no-service c snap most n x p line ts = record {
  last = answered c snap (doing n (Word p line ∷ ts)) Done;
  stops = refl;
  kept = append-nil n.kept;
  goes = one_answer_goes c snap most (doing n (Word p line ∷ ts)) Done x (with_service x (x.service ++ asking c n.now (Words p line) Done))
      (record { link = refl; sink = refl; source = refl; service = refl });
}

-- what is to be done of what the service said
abbrev said_to_do : ℕ → List ℕ → List (ℕ × List ℕ) → List Task → List Task
said_to_do p text sends ts = Say text ∷ ((post_tasks p sends ++ Flush ∷ []) ++ ts)

answered-said : (c : Cast) (snap : Snapper) (n : Node) (p : ℕ) (line : List ℕ) (ts : List Task) (text : List ℕ) (sends : List (ℕ × List ℕ))
    → answered c snap (doing n (Word p line ∷ ts)) (Said text sends) ≡ doing n (said_to_do p text sends ts)
unfolding answered after_task
answered-said c snap n p line ts text sends = λ i. record n {
  kept = append-nil n.kept i;
  gate = add-zero n.gate i;
  stopped = None;
  opening = [];
  leaving = [];
  tasks = said_to_do p text sends ts;
}

-- the service said something, and asked for letters
word-said : (c : Cast) (snap : Snapper) (most : ℕ) (n : Node) (x : Outside) (p : ℕ) (line : List ℕ) (ts : List Task) (text : List ℕ)
    (sends : List (ℕ × List ℕ)) → Goes c snap most (doing n (Word p line ∷ ts)) x (doing n (said_to_do p text sends ts))
    (with_service x (x.service ++ asking c n.now (Words p line) (Said text sends)))
unfolding call_of
word-said c snap most n x p line ts text sends =
    let y : Outside = with_service x (x.service ++ asking c n.now (Words p line) (Said text sends)) in
    subst (λ (m : Node). Goes c snap most (doing n (Word p line ∷ ts)) x m y) (answered-said c snap n p line ts text sends)
    (one_answer_goes c snap most (doing n (Word p line ∷ ts)) (Said text sends) x y
    (record { link = refl; sink = refl; source = refl; service = refl }))

marks-so : (c : Cast) (n : Node) (ts : List Task) → call_of c (doing n (Mark ∷ ts)) ≡ Marks
unfolding call_of
marks-so c n ts = refl

pub asks_the_outside : AsksTheOutside
asks_the_outside c snap most n x = record {
  refused = λ p line ts is. subst (λ (m : Node). StopsWith c snap most m x (BadLine m.lines)
      (with_service x (x.service ++ asking c m.now (Words p line) Done))) (doing-so n (Word p line ∷ ts) is) (no-service c snap most n x p line ts);
  said = λ p line ts text sends is. subst (λ (m : Node). Goes c snap most m x (record m { tasks = said_to_do p text sends ts })
      (with_service x (x.service ++ asking c m.now (Words p line) (Said text sends)))) (doing-so n (Word p line ∷ ts) is)
      (word-said c snap most n x p line ts text sends);
  marks = λ ts is. subst (λ (m : Node). call_of c m ≡ Marks) (doing-so n (Mark ∷ ts) is) (marks-so c n ts);
}
