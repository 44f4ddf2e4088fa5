-- What a service sends is posted: the node lets it out as the letters of a turn.
use Rattle.std.proofs.Common.{◌≡◌, ℕ, List, [], ◌∷◌, ◌++◌, None, refl, sym, ap, subst, ◌∙◌, add-zero}
use Rattle.std.specs.Prelude.{flat_map, zip}
use Rattle.std.specs.List.{AllZip}
use Rattle.std.proofs.lemmas.List.{append-nil, append_assoc, map-append}
use Rattle.group_defs.specs.Process.{Process}
use Rattle.node_defs.specs.Casts.{Cast}
use Rattle.node_defs.specs.Lines.{fault_line}
use Rattle.node_defs.specs.Nodes.{Leaving, Sends, Call, leaving_call, SendsTo, Answer, Done, Failed, Unremembered, Node, Task, Post, Snapper, call_of, after_task, answered, run, calls, post_tasks}
use Rattle.node_traces.specs.Ways.{Step, Through}
use Rattle.node_traces.specs.Outside.{LinkSeen, LinkAnswered, LinkStep, SinkStep, SourceStep}
use Rattle.node_traces.specs.Service.{Asked, asking, asked_by}
use Rattle.node_traces.specs.Goes.{Outside, Goes}
use Rattle.node_traces.proofs.Going.{parts_go_on, one_answer_goes}
use Rattle.node_traces.proofs.Quiet.{no-memory, runs-out}
use Rattle.letting_laws.specs.Letting.{Fits, asked, failed_by, sends_of, HasBegun, IsPosting, PostsPart, EachPosts}

-- the node, open and running, with nothing of a turn to let out, and these tasks
abbrev posting : Node → List Task → Node
posting n ts = record n { stopped = None; opening = []; leaving = []; tasks = ts }

-- with these lines of failed sends after those that wait
abbrev with_late : Node → List ℕ → Node
with_late n late = record n { late = n.late ++ late }

answered-so : (c : Cast) (snap : Snapper) (n : Node) (ts : List Task) (p q : ℕ) (frame : List ℕ) (a : Answer) → Fits (Sends p q frame) a
    → answered c snap (posting n (Post p q frame ∷ ts)) a ≡ posting (with_late n (failed_by (Sends p q frame, a))) ts
unfolding answered after_task
answered-so c snap n ts p q frame Done fits = λ i. record n {
  kept = append-nil n.kept i;
  gate = add-zero n.gate i;
  stopped = None;
  opening = [];
  leaving = [];
  tasks = ts;
  late = sym (append-nil n.late) i;
}
answered-so c snap n ts p q frame Failed fits = λ i. record n {
  kept = append-nil n.kept i;
  gate = add-zero n.gate i;
  stopped = None;
  opening = [];
  leaving = [];
  tasks = ts;
  late = n.late ++ fault_line p;
}
answered-so c snap n ts p q frame _ fits = absurd fits

asks-so : (c : Cast) (n : Node) (ts : List Task) (p q : ℕ) (frame : List ℕ)
    → call_of c (posting n (Post p q frame ∷ ts)) ≡ SendsTo (c.port q) (c.seal p q frame)
unfolding call_of
asks-so c n ts p q frame = refl

-- a letter is nothing to the service
asks-none-so : (c : Cast) (n : Node) (p q : ℕ) (frame : List ℕ) (a : Answer) → Fits (Sends p q frame) a
    → asking c n.now (SendsTo (c.port q) (c.seal p q frame)) a ≡ []
asks-none-so c n p q frame Done fits = refl
asks-none-so c n p q frame Failed fits = refl
asks-none-so c n p q frame _ fits = absurd fits

late-more : (n : Node) (u late : List ℕ) (ts : List Task)
    → posting (with_late (with_late n u) late) ts ≡ posting (with_late n (u ++ late)) ts
late-more n u late ts = λ i. record n { stopped = None; opening = []; leaving = []; tasks = ts; late = append_assoc n.late u late i }

calls-so : (c : Cast) (snap : Snapper) (n : Node) (p : ℕ) (letters : List (ℕ × List ℕ)) (ts : List Task) (answers : List Answer)
    → AllZip Fits (sends_of p letters) answers
    → calls c snap (posting n (post_tasks p letters ++ ts)) answers ≡ asked c (sends_of p letters) answers
unfolding calls
calls-so c snap n p [] ts [] each = refl
calls-so c snap n p [] ts (a ∷ more) each = absurd each
calls-so c snap n p (l ∷ ls) ts [] each = absurd each
calls-so c snap n p (l ∷ ls) ts (a ∷ more) each =
    let left = post_tasks p ls ++ ts in
    ap (λ (call : Call). (call, a) ∷ calls c snap (answered c snap (posting n (Post p l.0 l.1 ∷ left)) a) more) (asks-so c n left p l.0 l.1)
    ∙ ap (λ (cs : List (Call × Answer)). (leaving_call c (Sends p l.0 l.1), a) ∷ cs)
    (ap (λ (m : Node). calls c snap m more) (answered-so c snap n left p l.0 l.1 a each.0)
    ∙ calls-so c snap (with_late n (failed_by (Sends p l.0 l.1, a))) p ls ts more each.1)

run-so : (c : Cast) (snap : Snapper) (n : Node) (p : ℕ) (letters : List (ℕ × List ℕ)) (ts : List Task) (answers : List Answer)
    → AllZip Fits (sends_of p letters) answers
    → run c snap (posting n (post_tasks p letters ++ ts)) answers
    ≡ posting (with_late n (flat_map failed_by (zip (sends_of p letters) answers))) ts
unfolding run
run-so c snap n p [] ts [] each = λ i. record n {
  stopped = None;
  opening = [];
  leaving = [];
  tasks = ts;
  late = sym (append-nil n.late) i;
}
run-so c snap n p [] ts (a ∷ more) each = absurd each
run-so c snap n p (l ∷ ls) ts [] each = absurd each
run-so c snap n p (l ∷ ls) ts (a ∷ more) each =
    let failed = failed_by (Sends p l.0 l.1, a) in
    ap (λ (m : Node). run c snap m more) (answered-so c snap n (post_tasks p ls ++ ts) p l.0 l.1 a each.0)
    ∙ run-so c snap (with_late n failed) p ls ts more each.1
    ∙ late-more n failed (flat_map failed_by (zip (sends_of p ls) more)) ts

heard-so : (c : Cast) (snap : Snapper) (n : Node) (p : ℕ) (letters : List (ℕ × List ℕ)) (ts : List Task) (answers : List Answer)
    → AllZip Fits (sends_of p letters) answers → asked_by c snap (posting n (post_tasks p letters ++ ts)) answers ≡ []
unfolding asked_by
heard-so c snap n p [] ts [] each = refl
heard-so c snap n p [] ts (a ∷ more) each = absurd each
heard-so c snap n p (l ∷ ls) ts [] each = absurd each
heard-so c snap n p (l ∷ ls) ts (a ∷ more) each =
    let left = post_tasks p ls ++ ts in
    let then = asked_by c snap (answered c snap (posting n (Post p l.0 l.1 ∷ left)) a) more in
    ap (λ (call : Call). asking c n.now call a ++ then) (asks-so c n left p l.0 l.1)
    ∙ ap (λ (h : List Asked). h ++ then) (asks-none-so c n p l.0 l.1 a each.0)
    ∙ ap (λ (m : Node). asked_by c snap m more) (answered-so c snap n left p l.0 l.1 a each.0)
    ∙ heard-so c snap (with_late n (failed_by (Sends p l.0 l.1, a))) p ls ts more each.1

-- what no send changes
sends-change-nothing : {X : Type 0} (R : Step X) (x : X) (c : Cast) (p : ℕ) (letters : List (ℕ × List ℕ)) (answers : List Answer)
    → ((port : ℕ) (datagram : List ℕ) (a : Answer) → R x (SendsTo port datagram, a) x) → Through R x (asked c (sends_of p letters) answers) x
unfolding Through
sends-change-nothing R x c p [] answers each = refl
sends-change-nothing R x c p (l ∷ ls) [] each = refl
sends-change-nothing R x c p (l ∷ ls) (a ∷ more) each =
    (x, each (c.port l.0) (c.seal p l.0 l.1) a, sends-change-nothing R x c p ls more each)

module _ (c : Cast) (snap : Snapper) (most : ℕ) where
  -- these letters were posted, with these answers, and the other tasks are left
  posted : (n : Node) (p : ℕ) (letters : List (ℕ × List ℕ)) (ts : List Task) (x : Outside) (l : LinkSeen) (answers : List Answer)
      (late : List ℕ) → IsPosting n p letters ts → AllZip Fits (sends_of p letters) answers
      → LinkAnswered x.link (asked c (sends_of p letters) answers) l → late ≡ flat_map failed_by (zip (sends_of p letters) answers)
      → Goes c snap most n x (record n { tasks = ts; late = n.late ++ late }) (record x { link = l })
  posted n p letters ts x l answers late is each sent failed =
      let same : n ≡ posting n (post_tasks p letters ++ ts)
      = λ i. record n { stopped = is.runs i; opening = is.ready i; leaving = is.nothing i; tasks = is.tasks i } in
      let are : asked c (sends_of p letters) answers ≡ calls c snap n answers
      = sym (ap (λ (m : Node). calls c snap m answers) same ∙ calls-so c snap n p letters ts answers each) in
      let to : record n { tasks = ts; late = n.late ++ late } ≡ posting (with_late n (flat_map failed_by (zip (sends_of p letters) answers))) ts
      = λ i. record n { stopped = is.runs i; opening = is.ready i; leaving = is.nothing i; tasks = ts; late = n.late ++ failed i } in
      record {
        answers = answers;
        becomes = to ∙ sym (ap (λ (m : Node). run c snap m answers) same ∙ run-so c snap n p letters ts answers each);
        link = subst (λ cs. Through LinkStep x.link cs l) are sent;
        sink = subst (λ cs. Through SinkStep x.sink cs x.sink) are (sends-change-nothing SinkStep x.sink c p letters answers (λ port d a. refl));
        source = subst (λ cs. Through (SourceStep most) x.source cs x.source) are
            (sends-change-nothing (SourceStep most) x.source c p letters answers (λ port d a. refl));
        service = sym (append-nil x.service)
            ∙ ap (λ (h : List Asked). x.service ++ h)
            (sym (ap (λ (m : Node). asked_by c snap m answers) same ∙ heard-so c snap n p letters ts answers each));
      }

  -- the same, and then memory ran out
  posted-part : (n : Node) (p : ℕ) (letters others : List (ℕ × List ℕ)) (ts : List Task) (x : Outside) (l : LinkSeen) (answers : List Answer)
      → IsPosting n p (letters ++ others) ts → AllZip Fits (sends_of p letters) answers
      → LinkAnswered x.link (asked c (sends_of p letters) answers) l → PostsPart c snap most n x (record x { link = l })
  posted-part n p letters others ts x l answers is each sent =
      let late : List ℕ = flat_map failed_by (zip (sends_of p letters) answers) in
      let left : List Task = post_tasks p others ++ ts in
      let m : Node = record n { tasks = left; late = n.late ++ late } in
      let y : Outside = record x { link = l } in
      let posts : IsPosting n p letters left = record {
        runs = is.runs;
        ready = is.ready;
        nothing = is.nothing;
        tasks = is.tasks ∙ ap (λ (t : List Task). t ++ ts) (map-append (λ s. Post p s.0 s.1) letters others)
            ∙ append_assoc (post_tasks p letters) (post_tasks p others) ts;
      } in
      let out = runs-out c snap m is.runs in
      record {
        last = answered c snap m Unremembered;
        stops = out.0;
        kept = out.1;
        goes = parts_go_on c snap most n m (answered c snap m Unremembered) x y y (posted n p letters left x l answers late posts each sent refl)
            (one_answer_goes c snap most m Unremembered y y (no-memory c most m y));
      }

-- ---- a front of what is let out is a front of the letters

pub record FrontOf (p : ℕ) (letters : List (ℕ × List ℕ)) (first : List Leaving) : Type 0 where
  pub these : List (ℕ × List ℕ)
  pub others : List (ℕ × List ℕ)
  pub splits : letters ≡ these ++ others
  pub are : first ≡ sends_of p these

head-is : (x y : Leaving) (xs ys : List Leaving) → x ∷ xs ≡ y ∷ ys → x ≡ y
head-is x y xs ys e = cc

tail-is : (x y : Leaving) (xs ys : List Leaving) → x ∷ xs ≡ y ∷ ys → xs ≡ ys
tail-is x y xs ys e = cc

not-nil : (y : Leaving) (ys : List Leaving) → [] ≡ y ∷ ys → ⊥
not-nil y ys e = cc

front-of : (p : ℕ) (letters : List (ℕ × List ℕ)) (first others : List Leaving) → sends_of p letters ≡ first ++ others → FrontOf p letters first
front-of p letters [] others is = record { these = []; others = letters; splits = refl; are = refl }
front-of p [] (f ∷ first) others is = absurd (not-nil f (first ++ others) is)
front-of p (l ∷ ls) (f ∷ first) others is =
    let more = front-of p ls first others (tail-is (Sends p l.0 l.1) f (sends_of p ls) (first ++ others) is) in
    let one = head-is (Sends p l.0 l.1) f (sends_of p ls) (first ++ others) is in
    record {
      these = l ∷ more.these;
      others = more.others;
      splits = ap (λ (ts : List (ℕ × List ℕ)). l ∷ ts) more.splits;
      are = ap (λ (g : Leaving). g ∷ first) (sym one) ∙ ap (λ (gs : List Leaving). Sends p l.0 l.1 ∷ gs) more.are;
    }

module _ (c : Cast) (snap : Snapper) (most : ℕ) (n : Node) (p : ℕ) (letters : List (ℕ × List ℕ)) (ts : List Task) (x : Outside)
    (is : IsPosting n p letters ts) where
  begun-part : (at : ℕ → Process) (h i : List Asked) (l : LinkSeen) → HasBegun c at (sends_of p letters) x.link h l i
      → PostsPart c snap most n x (record x { link = l })
  begun-part at h i l begun =
      let front = front-of p letters begun.first begun.others begun.splits in
      posted-part c snap most n p front.these front.others ts x l begun.answers
      (subst (λ (ls : List (ℕ × List ℕ)). IsPosting n p ls ts) front.splits is)
      (subst (λ (ls : List Leaving). AllZip Fits ls begun.answers) front.are begun.each)
      (subst (λ (ls : List Leaving). LinkAnswered x.link (asked c ls begun.answers) l) front.are begun.link)

pub each_posts : EachPosts
each_posts c snap most n p letters ts x is = record {
  all = λ at h i l late out. posted c snap most n p letters ts x l out.answers late is out.each out.link out.late;
  some = begun-part c snap most n p letters ts x is;
}
