-- What an answer changes of a node, and of one beside it that differs in its processes, its entries and the number of its lines.
use Rattle.std.proofs.Common.{◌≡◌, ℕ, zero, suc, ◌+◌, List, [], ◌∷◌, length, Bool, true, false, refl, sym, ap, ◌∙◌, Option, Some, None}
use Rattle.std.specs.Prelude.{option_map, ◌==◌, if◌then◌else◌, IsTrue}
use Rattle.byte_defs.specs.Members.{has}
use Rattle.group_defs.specs.Process.{Process}
use Rattle.group_defs.specs.Events.{EventFault}
use Rattle.journal_defs.specs.Entries.{Event, Entry, entry_bytes}
use Rattle.node_defs.specs.Scripts.{Line, Of, Snap, Hand, Receive, Other, line_said, most_lines}
use Rattle.node_defs.specs.Lines.{Stop, Ended, ReadFailed, WriteFailed, DiskFailed, BadLine, Full}
use Rattle.node_defs.specs.Casts.{Cast, outcome_of, entry_for}
use Rattle.node_defs.specs.Nodes.{Node, Leaving, Sends, Notes, Task, Take, Append, Flush, Say, Ask, Get, Word, Post, Mark, Answer, Done, Failed, Unremembered, Came, Broken, Said, Named, Digest, Change, Snapper, goes, ends, done_or, is_full, asks, after_step, after_get, after_task, after_leaving, after_line, after_read}
use Rattle.node_defs.specs.Lives.{IsHosted}
use Rattle.image_laws.specs.Alike.{IsAlike}
use Rattle.resume_laws.specs.Resuming.{one_line_on}
use Rattle.resume_laws.proofs.Turning.{outcome-alike, entry-alike}

-- the node with these processes and entries, one line further on
abbrev pub moved : (ℕ → Process) → List Entry → Node → Node
moved now kept n = record n { now = now; kept = kept; lines = n.lines + 1; stopped = option_map one_line_on n.stopped }

-- the change that the same answer is to it
abbrev pub later : Change → Change
later x = record x { stop = option_map one_line_on x.stop }

-- a turn that is taken is of a hosted process
abbrev pub TurnHosted : Cast → Option (ℕ × Event) → Type 0
TurnHosted c None = Unit {0}
TurnHosted c (Some t) = IsTrue (has c.hosted t.0)

abbrev pub ChangeHosted : Cast → Option Change → Type 0
ChangeHosted c None = Unit {0}
ChangeHosted c (Some x) = TurnHosted c x.taken

-- what an answer changes of the one, and of the other
pub record Alike (c : Cast) (one other : Option Change) : Type 0 where
  pub same : other ≡ option_map later one
  pub hosted : ChangeHosted c one

-- the node m is n with other processes, of which the hosted ones are alike
module _ (c : Cast) (snap snap' : Snapper) (n : Node) (now : ℕ → Process) (kept : List Entry)
    (agree : (p : ℕ) → IsTrue (has c.hosted p) → IsAlike (n.now p) (now p))
    (snaps : (digest : List ℕ) → snap' (moved now kept n) digest ≡ snap n digest) where
  abbrev m : Node
  m = moved now kept n

  -- no such answer
  none : Alike c None None
  none = record { same = refl; hosted = tt }

  -- no turn
  quiet : (ts : List Task) → Alike c (Some (goes n ts)) (Some (goes m ts))
  quiet ts = record { same = refl; hosted = tt }

  stops : (why : Stop) → Alike c (Some (ends n [] why)) (Some (ends m [] (one_line_on why)))
  stops why = record { same = refl; hosted = tt }

  done-alike : (why : Stop) → one_line_on why ≡ why → (a : Answer) → Alike c (done_or n why [] a) (done_or m why [] a)
  done-alike why is Done = quiet []
  done-alike why is Failed = record { same = ap (λ w. Some (ends m [] w)) (sym is); hosted = tt }
  done-alike why is Unremembered = none
  done-alike why is (Came bytes) = none
  done-alike why is Broken = none
  done-alike why is (Said text sends) = none
  done-alike why is (Named q) = none
  done-alike why is (Digest d) = none

  -- where the entries are the same
  step-same : (p : ℕ) (e : Event) (o : Option EventFault) → entry_for c (now p) e ≡ entry_for c (n.now p) e
      → after_step c m p e o ≡ later (after_step c n p e o)
  step-same p e (Some fault) same = refl
  step-same p e None same = ap (λ entry. if is_full n.gate entry then full m entry else goes m (Append p e ∷ [])) same
      ∙ go (is_full n.gate (entry_for c (n.now p) e))
    where
      full : Node → Entry → Change
      full x entry = ends x [] (Full (n.gate + 1) (length (entry_bytes entry)))

      go : (b : Bool) → (if b then full m (entry_for c (n.now p) e) else goes m (Append p e ∷ []))
          ≡ later (if b then full n (entry_for c (n.now p) e) else goes n (Append p e ∷ []))
      go true = refl
      go false = refl

  step-quiet : (p : ℕ) (e : Event) (o : Option EventFault) → TurnHosted c (after_step c n p e o).taken
  step-quiet p e (Some fault) = tt
  step-quiet p e None = go (is_full n.gate (entry_for c (n.now p) e))
    where
      go : (b : Bool) → TurnHosted c
          (if b then ends n [] (Full (n.gate + 1) (length (entry_bytes (entry_for c (n.now p) e)))) else goes n (Append p e ∷ [])).taken
      go true = tt
      go false = tt

  step-alike : (p : ℕ) (e : Event) → IsTrue (has c.hosted p) → Alike c (Some (after_step c n p e (outcome_of c (n.now p) e).verdict))
      (Some (after_step c m p e (outcome_of c (now p) e).verdict))
  step-alike p e h = record {
    same = ap (λ o. Some (after_step c m p e o.verdict)) (outcome-alike c (n.now p) (now p) (agree p h) e)
        ∙ ap Some (step-same p e (outcome_of c (n.now p) e).verdict (entry-alike c (n.now p) (now p) (agree p h) e));
    hosted = step-quiet p e (outcome_of c (n.now p) e).verdict;
  }

  get-alike : (p most count : ℕ) (a : Answer) → Alike c (after_get c n p most count a) (after_get c m p most count a)
  get-alike p zero count a = none
  get-alike p (suc most) count Done = quiet _
  get-alike p (suc most) count Failed = quiet _
  get-alike p (suc most) count (Came bytes) = quiet _
  get-alike p (suc most) count Unremembered = none
  get-alike p (suc most) count Broken = none
  get-alike p (suc most) count (Said text sends) = none
  get-alike p (suc most) count (Named q) = none
  get-alike p (suc most) count (Digest d) = none

  pub task-alike : (t : Task) (a : Answer) → IsHosted c t → Alike c (after_task c snap n t a) (after_task c snap' m t a)
  unfolding after_task
  task-alike (Take p e) Done h = step-alike p e h
  task-alike (Take p e) Failed h = none
  task-alike (Take p e) Unremembered h = none
  task-alike (Take p e) (Came bytes) h = none
  task-alike (Take p e) Broken h = none
  task-alike (Take p e) (Said text sends) h = none
  task-alike (Take p e) (Named k) h = none
  task-alike (Take p e) (Digest d) h = none
  task-alike (Append p e) Done h = record {
    same = ap (λ o. Some (record (goes m (Flush ∷ asks p e o.notes)) { taken = Some (p, e) }))
        (outcome-alike c (n.now p) (now p) (agree p h) e);
    hosted = h;
  }
  task-alike (Append p e) Failed h = record { same = refl; hosted = tt }
  task-alike (Append p e) Unremembered h = none
  task-alike (Append p e) (Came bytes) h = none
  task-alike (Append p e) Broken h = none
  task-alike (Append p e) (Said text sends) h = none
  task-alike (Append p e) (Named k) h = none
  task-alike (Append p e) (Digest d) h = none
  task-alike Flush Done h = record { same = refl; hosted = tt }
  task-alike Flush Failed h = stops WriteFailed
  task-alike Flush Unremembered h = none
  task-alike Flush (Came bytes) h = none
  task-alike Flush Broken h = none
  task-alike Flush (Said text sends) h = none
  task-alike Flush (Named k) h = none
  task-alike Flush (Digest d) h = none
  task-alike (Say text) a h = done-alike WriteFailed refl a
  task-alike (Ask p e notes above) Done h = quiet []
  task-alike (Ask p e notes above) Failed h = none
  task-alike (Ask p e notes above) Unremembered h = none
  task-alike (Ask p e notes above) (Came bytes) h = none
  task-alike (Ask p e notes above) Broken h = none
  task-alike (Ask p e notes above) (Said text sends) h = none
  task-alike (Ask p e notes above) (Named k) h = quiet _
  task-alike (Ask p e notes above) (Digest d) h = none
  task-alike (Get p most count) a h = get-alike p most count a
  task-alike (Word p line) Done h = stops (BadLine n.lines)
  task-alike (Word p line) Failed h = none
  task-alike (Word p line) Unremembered h = none
  task-alike (Word p line) (Came bytes) h = none
  task-alike (Word p line) Broken h = none
  task-alike (Word p line) (Said text sends) h = quiet _
  task-alike (Word p line) (Named k) h = none
  task-alike (Word p line) (Digest d) h = none
  task-alike (Post p q frame) Done h = quiet []
  task-alike (Post p q frame) Failed h = record { same = refl; hosted = tt }
  task-alike (Post p q frame) Unremembered h = none
  task-alike (Post p q frame) (Came bytes) h = none
  task-alike (Post p q frame) Broken h = none
  task-alike (Post p q frame) (Said text sends) h = none
  task-alike (Post p q frame) (Named k) h = none
  task-alike (Post p q frame) (Digest d) h = none
  task-alike Mark Done h = none
  task-alike Mark Failed h = stops DiskFailed
  task-alike Mark Unremembered h = none
  task-alike Mark (Came bytes) h = none
  task-alike Mark Broken h = none
  task-alike Mark (Said text sends) h = none
  task-alike Mark (Named k) h = none
  task-alike Mark (Digest d) h = record { same = ap (λ line. Some (goes m (Say line ∷ []))) (snaps d); hosted = tt }

  pub leaving-alike : (l : Leaving) (a : Answer) → Alike c (after_leaving n l a) (after_leaving m l a)
  unfolding after_leaving
  leaving-alike (Sends p q frame) Done = quiet []
  leaving-alike (Sends p q frame) Failed = record { same = refl; hosted = tt }
  leaving-alike (Sends p q frame) Unremembered = none
  leaving-alike (Sends p q frame) (Came bytes) = none
  leaving-alike (Sends p q frame) Broken = none
  leaving-alike (Sends p q frame) (Said text sends) = none
  leaving-alike (Sends p q frame) (Named k) = none
  leaving-alike (Sends p q frame) (Digest d) = none
  leaving-alike (Notes p note) Done = none
  leaving-alike (Notes p note) Failed = none
  leaving-alike (Notes p note) Unremembered = none
  leaving-alike (Notes p note) (Came bytes) = none
  leaving-alike (Notes p note) Broken = none
  leaving-alike (Notes p note) (Said text sends) = record { same = refl; hosted = tt }
  leaving-alike (Notes p note) (Named k) = none
  leaving-alike (Notes p note) (Digest d) = none

  pub read-alike : (a : Answer) → Alike c (after_read c n a) (after_read c m a)
  unfolding after_read
  read-alike Done = stops Ended
  read-alike Failed = stops ReadFailed
  read-alike Broken = stops (BadLine (n.lines + 1))
  read-alike (Came line) = most (n.script == most_lines)
    where
      said : (o : Option Line) → Alike c (Some (after_line n line o)) (Some (after_line m line o))
      said None = stops (BadLine (n.lines + 1))
      said (Some Snap) = quiet _
      said (Some (Of p (Hand e))) = quiet _
      said (Some (Of p (Receive most))) = quiet _
      said (Some (Of p Other)) = quiet _

      most : (b : Bool) → Alike c (Some (if b then ends n [] (BadLine (n.lines + 1)) else after_line n line (line_said c.hosted line)))
          (Some (if b then ends m [] (BadLine (m.lines + 1)) else after_line m line (line_said c.hosted line)))
      most true = stops (BadLine (n.lines + 1))
      most false = said (line_said c.hosted line)
  read-alike Unremembered = none
  read-alike (Said text sends) = none
  read-alike (Named k) = none
  read-alike (Digest d) = none
