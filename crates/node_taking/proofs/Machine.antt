-- A node that takes an event and appends its entry, answer by answer.
use Rattle.std.proofs.Common.{◌≡◌, ℕ, ◌+◌, Bool, true, false, List, [], ◌∷◌, ◌++◌, length, Option, None, Some, refl, sym, ap, ◌∙◌, add-zero}
use Rattle.std.specs.Prelude.{if◌then◌else◌}
use Rattle.std.proofs.lemmas.List.{append-nil}
use Rattle.group_defs.specs.Events.{EventFault}
use Rattle.journal_defs.specs.Entries.{Event, entry_bytes}
use Rattle.node_defs.specs.Casts.{Cast, entry_for, outcome_of}
use Rattle.node_defs.specs.Lines.{DiskFailed, Full, refused_line}
use Rattle.node_defs.specs.Nodes.{Node, Task, Take, Append, Say, Call, Steps, Appends, Answer, Done, Failed, Change, Snapper, after_step, after_task, answered, call_of, changed, ends, goes, is_full}
use Rattle.node_traces.specs.Goes.{Outside, Goes, Does}
use Rattle.node_traces.proofs.Going.{one_answer_goes}
use Rattle.node_traces.proofs.Service.{asks-none}
use Rattle.sealing_laws.specs.Running.{IsAt}
use Rattle.node_taking.specs.Keeping.{at, letting}

pub at-so : (n : Node) (ts : List Task) → IsAt n ts → n ≡ at n ts
at-so n ts is = λ i. record n {
  stopped = is.runs i;
  opening = is.opened i;
  leaving = is.leaving i;
  tasks = is.tasks i;
  text = is.text i;
  late = is.late i;
}

-- one answer is a part, to whatever the node then is
pub answers : (c : Cast) (snap : Snapper) (most : ℕ) (n k : Node) (a : Answer) (x y : Outside) → k ≡ answered c snap n a → Does c most n a x y
    → Goes c snap most n x k y
answers c snap most n k a x y is does =
    let one = one_answer_goes c snap most n a x y does in
    record { answers = one.answers; becomes = is ∙ one.becomes; link = one.link; sink = one.sink; source = one.source; service = one.service }

-- ---- memory for the event

pub steps-does : (c : Cast) (most : ℕ) (n : Node) (p : ℕ) (e : Event) (ts : List Task) (x : Outside)
    → Does c most (at n (Take p e ∷ ts)) Done x x
unfolding call_of
steps-does c most n p e ts x = record { link = refl; sink = refl; source = refl; service = asks-none c n.now (Steps p e) Done x.service refl }

abbrev stepped : Cast → Node → ℕ → Event → List Task → Option EventFault → Node
stepped c n p e ts verdict = changed c (at n (Take p e ∷ ts)) [] ts (after_step c (at n (Take p e ∷ ts)) p e verdict)

stepped-so : (c : Cast) (snap : Snapper) (n : Node) (p : ℕ) (e : Event) (ts : List Task)
    → answered c snap (at n (Take p e ∷ ts)) Done ≡ stepped c n p e ts (outcome_of c (n.now p) e).verdict
unfolding answered after_task
stepped-so c snap n p e ts = refl

-- nothing is left over where nothing was kept
pub as-it-was : (n : Node) (ts : List Task)
    → record (at n ts) { kept = n.kept ++ []; gate = n.gate + 0 } ≡ at n ts
as-it-was n ts = λ i. record (at n ts) { kept = append-nil n.kept i; gate = add-zero n.gate i }

pub refused-so : (c : Cast) (snap : Snapper) (n : Node) (p : ℕ) (e : Event) (ts : List Task) (fault : EventFault)
    → (outcome_of c (n.now p) e).verdict ≡ Some fault
    → at n (Say (refused_line p fault) ∷ ts) ≡ answered c snap (at n (Take p e ∷ ts)) Done
refused-so c snap n p e ts fault is =
    sym (stepped-so c snap n p e ts ∙ ap (stepped c n p e ts) is ∙ as-it-was n (Say (refused_line p fault) ∷ ts))

pub taken-so : (c : Cast) (snap : Snapper) (n : Node) (p : ℕ) (e : Event) (ts : List Task)
    → (outcome_of c (n.now p) e).verdict ≡ None → is_full n.gate (entry_for c (n.now p) e) ≡ false
    → at n (Append p e ∷ ts) ≡ answered c snap (at n (Take p e ∷ ts)) Done
taken-so c snap n p e ts is room =
    let m : Node = at n (Take p e ∷ ts) in
    let either : Bool → Change = λ b. if b
    then ends m [] (Full (n.gate + 1) (length (entry_bytes (entry_for c (n.now p) e)))) else goes m (Append p e ∷ []) in
    sym (stepped-so c snap n p e ts ∙ ap (stepped c n p e ts) is ∙ ap (λ b. changed c m [] ts (either b)) room
    ∙ as-it-was n (Append p e ∷ ts))

pub full-so : (c : Cast) (snap : Snapper) (n : Node) (p : ℕ) (e : Event) (ts : List Task)
    → (outcome_of c (n.now p) e).verdict ≡ None → is_full n.gate (entry_for c (n.now p) e) ≡ true
    → ((answered c snap (at n (Take p e ∷ ts)) Done).stopped ≡ Some (Full (n.gate + 1) (length (entry_bytes (entry_for c (n.now p) e)))))
    × ((answered c snap (at n (Take p e ∷ ts)) Done).kept ≡ n.kept)
full-so c snap n p e ts is full =
    let m : Node = at n (Take p e ∷ ts) in
    let either : Bool → Change = λ b. if b
    then ends m [] (Full (n.gate + 1) (length (entry_bytes (entry_for c (n.now p) e)))) else goes m (Append p e ∷ []) in
    let so = stepped-so c snap n p e ts ∙ ap (stepped c n p e ts) is ∙ ap (λ b. changed c m [] ts (either b)) full in
    (ap (λ (k : Node). k.stopped) so, ap (λ (k : Node). k.kept) so ∙ append-nil n.kept)

-- ---- the append

pub appends-does : (c : Cast) (most : ℕ) (n : Node) (p : ℕ) (e : Event) (ts : List Task) (x : Outside)
    → Does c most (at n (Append p e ∷ ts)) Done x x × Does c most (at n (Append p e ∷ ts)) Failed x x
unfolding call_of
appends-does c most n p e ts x =
    let call : Call = Appends (entry_for c (n.now p) e) in (
      record { link = refl; sink = refl; source = refl; service = asks-none c n.now call Done x.service refl },
      record { link = refl; sink = refl; source = refl; service = asks-none c n.now call Failed x.service refl },
    )

pub appended-so : (c : Cast) (snap : Snapper) (n : Node) (p : ℕ) (e : Event) (ts : List Task)
    → letting c n p e ts ≡ answered c snap (at n (Append p e ∷ ts)) Done
unfolding answered after_task
appended-so c snap n p e ts = refl

pub append-failed : (c : Cast) (snap : Snapper) (n : Node) (p : ℕ) (e : Event) (ts : List Task)
    → ((answered c snap (at n (Append p e ∷ ts)) Failed).stopped ≡ Some DiskFailed)
    × ((answered c snap (at n (Append p e ∷ ts)) Failed).kept ≡ n.kept)
unfolding answered after_task
append-failed c snap n p e ts = (refl, append-nil n.kept)
