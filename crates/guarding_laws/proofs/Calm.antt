-- What may be to be done while a guard goes on, and the answers that no turn comes of.
use Rattle.std.proofs.Common.{◌≡◌, ℕ, zero, suc, ◌+◌, List, [], ◌∷◌, ◌++◌, Bool, true, false, refl, sym, subst, Option, Some, None, Result, Ok, Err}
use Rattle.std.specs.Prelude.{◌==◌, if◌then◌else◌, length, IsTrue, Contains}
use Rattle.std.proofs.lemmas.List.{append_assoc}
use Rattle.link_defs.specs.declared.LinkFault.{LinkFault}
use Rattle.group_defs.specs.Process.{Process}
use Rattle.group_defs.specs.Events.{EventFault}
use Rattle.journal_defs.specs.Entries.{Event, Submit, Frame, Suspect, Join, Renew, Tick, entry_bytes}
use Rattle.guard_defs.specs.Guarding.{may_expel, shown_by}
use Rattle.node_defs.specs.Scripts.{Line, Of, Snap, Hand, Receive, Other, line_said, most_lines}
use Rattle.node_defs.specs.Lines.{Stop, Full, BadLine}
use Rattle.node_defs.specs.Casts.{Cast, handed, outcome_of, entry_for}
use Rattle.node_defs.specs.Nodes.{Node, Leaving, Sends, Notes, Task, Take, Append, Flush, Say, Ask, Get, Word, Post, Mark, Call, Binds, Writes, Serves, Finishes, SendsTo, NotesOf, Steps, Appends, Asks, ReceivesOn, Words, Marks, ReadsLine, Rests, Answer, Done, Failed, Unremembered, Came, Broken, Said, Named, Digest, Change, Snapper, task_call, goes, ends, done_or, is_full, after_step, more_gets, after_came, post_tasks, after_get, after_task, after_leaving, after_line, after_read}
use Rattle.guarding_laws.specs.Marks.{is_guards, mark}

-- ---- tasks

-- the task is no turn and no question to the service
abbrev pub IsQuiet : Task → Type 0
IsQuiet (Take q e) = ⊥
IsQuiet (Append q e) = ⊥
IsQuiet Flush = Unit {0}
IsQuiet (Say text) = Unit {0}
IsQuiet (Ask q e notes above) = ⊥
IsQuiet (Get q most count) = Unit {0}
IsQuiet (Word q line) = Unit {0}
IsQuiet (Post q r frame) = Unit {0}
IsQuiet Mark = Unit {0}

abbrev pub AreQuiet : List Task → Type 0
AreQuiet [] = Unit {0}
AreQuiet (t ∷ ts) = IsQuiet t × AreQuiet ts

pub quiet-append : (ts us : List Task) → AreQuiet ts → AreQuiet us → AreQuiet (ts ++ us)
quiet-append [] us a b = b
quiet-append (t ∷ ts) us a b = (a.0, quiet-append ts us a.1 b)

-- Of guard p, to which the last frame showed these. A turn of process q is to be taken, by the guard or not, and then these tasks are to be
-- done: the guard's is a Suspect of one that was shown, whom the process may expel, and after it the service is asked again.
abbrev pub Turns : Cast → ℕ → (ℕ → Process) → Bool → List ℕ → ℕ → Event → List Task → Type 0
Turns c p now false named q e ts = AreQuiet ts
Turns c p now true named q (Suspect who) (Ask r frame notes above ∷ ts) = (q ≡ p → Contains named who × IsTrue (may_expel (now q) who))
    × (r ≡ p → named ≡ shown_by c.setting (handed frame) notes) × AreQuiet ts
Turns c p now true named q e ts = ⊥

-- these tasks are to be done while it goes on
abbrev pub Ready : Cast → ℕ → (ℕ → Process) → Bool → List ℕ → List Task → Type 0
Ready c p now by named [] = Unit {0}
Ready c p now by named (Take q e ∷ ts) = Turns c p now by named q e ts
Ready c p now by named (Append q e ∷ ts) = Turns c p now by named q e ts × ((outcome_of c (now q) e).verdict ≡ None)
Ready c p now by named (Flush ∷ ts) = Ready c p now by named ts
Ready c p now by named (Say text ∷ ts) = Ready c p now by named ts
Ready c p now by named (Ask q e notes above ∷ ts) = (q ≡ p → named ≡ shown_by c.setting (handed e) notes) × AreQuiet ts
Ready c p now by named (Get q most count ∷ ts) = AreQuiet ts
Ready c p now by named (Word q line ∷ ts) = AreQuiet ts
Ready c p now by named (Post q r frame ∷ ts) = AreQuiet ts
Ready c p now by named (Mark ∷ ts) = AreQuiet ts

-- quiet tasks are, whatever was shown
pub quiet-ready : (c : Cast) (p : ℕ) (now : ℕ → Process) (by : Bool) (named : List ℕ) (ts : List Task) → AreQuiet ts
    → Ready c p now by named ts
quiet-ready c p now by named [] quiet = tt
quiet-ready c p now by named (Take q e ∷ ts) quiet = absurd quiet.0
quiet-ready c p now by named (Append q e ∷ ts) quiet = absurd quiet.0
quiet-ready c p now by named (Flush ∷ ts) quiet = quiet-ready c p now by named ts quiet.1
quiet-ready c p now by named (Say text ∷ ts) quiet = quiet-ready c p now by named ts quiet.1
quiet-ready c p now by named (Ask q e notes above ∷ ts) quiet = absurd quiet.0
quiet-ready c p now by named (Get q most count ∷ ts) quiet = quiet.1
quiet-ready c p now by named (Word q line ∷ ts) quiet = quiet.1
quiet-ready c p now by named (Post q r frame ∷ ts) quiet = quiet.1
quiet-ready c p now by named (Mark ∷ ts) quiet = quiet.1

-- what is to be done after a turn is ready, where the turn is not taken
pub turns-rest : (c : Cast) (p : ℕ) (now : ℕ → Process) (by : Bool) (named : List ℕ) (q : ℕ) (e : Event) (ts : List Task)
    → Turns c p now by named q e ts → Ready c p now by named ts
turns-rest c p now false named q e ts turns = quiet-ready c p now false named ts turns
turns-rest c p now true named q (Suspect who) (Ask r frame notes above ∷ ts) turns = (turns.1, turns.2)
turns-rest c p now true named q (Suspect who) [] turns = absurd turns
turns-rest c p now true named q (Suspect who) (Take r f ∷ ts) turns = absurd turns
turns-rest c p now true named q (Suspect who) (Append r f ∷ ts) turns = absurd turns
turns-rest c p now true named q (Suspect who) (Flush ∷ ts) turns = absurd turns
turns-rest c p now true named q (Suspect who) (Say text ∷ ts) turns = absurd turns
turns-rest c p now true named q (Suspect who) (Get r most count ∷ ts) turns = absurd turns
turns-rest c p now true named q (Suspect who) (Word r line ∷ ts) turns = absurd turns
turns-rest c p now true named q (Suspect who) (Post r k frame ∷ ts) turns = absurd turns
turns-rest c p now true named q (Suspect who) (Mark ∷ ts) turns = absurd turns
turns-rest c p now true named q (Submit payload) ts turns = absurd turns
turns-rest c p now true named q (Frame from bytes) ts turns = absurd turns
turns-rest c p now true named q (Join r) ts turns = absurd turns
turns-rest c p now true named q Renew ts turns = absurd turns
turns-rest c p now true named q Tick ts turns = absurd turns

-- ---- calls that say nothing of who asks

-- the call is none by which something comes, nor by which an entry is appended
abbrev pub IsPlain : Call → Type 0
IsPlain (Binds port) = Unit {0}
IsPlain (Writes text) = Unit {0}
IsPlain Serves = Unit {0}
IsPlain Finishes = Unit {0}
IsPlain (SendsTo port datagram) = Unit {0}
IsPlain (NotesOf q note) = Unit {0}
IsPlain (Steps q e) = Unit {0}
IsPlain (Appends entry) = ⊥
IsPlain (Asks q e notes above) = ⊥
IsPlain (ReceivesOn port) = ⊥
IsPlain (Words q line) = Unit {0}
IsPlain Marks = Unit {0}
IsPlain ReadsLine = ⊥
IsPlain Rests = Unit {0}

done-none : (by : Bool) (call : Call) → IsPlain call → mark by Done call ≡ []
done-none by (Binds port) plain = refl
done-none by (Writes text) plain = refl
done-none by Serves plain = refl
done-none by Finishes plain = refl
done-none by (SendsTo port datagram) plain = refl
done-none by (NotesOf q note) plain = refl
done-none by (Steps q e) plain = refl
done-none by (Appends entry) plain = absurd plain
done-none by (Asks q e notes above) plain = refl
done-none by (ReceivesOn port) plain = refl
done-none by (Words q line) plain = refl
done-none by Marks plain = refl
done-none by ReadsLine plain = refl
done-none by Rests plain = refl

pub plain-none : (by : Bool) (call : Call) (a : Answer) → IsPlain call → mark by a call ≡ []
plain-none by call Done plain = done-none by call plain
plain-none by call Failed plain = refl
plain-none by call Unremembered plain = refl
plain-none by call (Came bytes) plain = refl
plain-none by call Broken plain = refl
plain-none by call (Said text sends) plain = refl
plain-none by call (Named q) plain = refl
plain-none by call (Digest d) plain = refl

came-same : (by : Bool) (call : Call) (bytes : List ℕ) → IsPlain call → is_guards by (Came bytes) call ≡ by
came-same by (Binds port) bytes plain = refl
came-same by (Writes text) bytes plain = refl
came-same by Serves bytes plain = refl
came-same by Finishes bytes plain = refl
came-same by (SendsTo port datagram) bytes plain = refl
came-same by (NotesOf q note) bytes plain = refl
came-same by (Steps q e) bytes plain = refl
came-same by (Appends entry) bytes plain = refl
came-same by (Asks q e notes above) bytes plain = refl
came-same by (ReceivesOn port) bytes plain = absurd plain
came-same by (Words q line) bytes plain = refl
came-same by Marks bytes plain = refl
came-same by ReadsLine bytes plain = absurd plain
came-same by Rests bytes plain = refl

named-same : (by : Bool) (call : Call) (who : ℕ) → IsPlain call → is_guards by (Named who) call ≡ by
named-same by (Binds port) who plain = refl
named-same by (Writes text) who plain = refl
named-same by Serves who plain = refl
named-same by Finishes who plain = refl
named-same by (SendsTo port datagram) who plain = refl
named-same by (NotesOf q note) who plain = refl
named-same by (Steps q e) who plain = refl
named-same by (Appends entry) who plain = refl
named-same by (Asks q e notes above) who plain = absurd plain
named-same by (ReceivesOn port) who plain = refl
named-same by (Words q line) who plain = refl
named-same by Marks who plain = refl
named-same by ReadsLine who plain = refl
named-same by Rests who plain = refl

pub plain-same : (by : Bool) (call : Call) (a : Answer) → IsPlain call → is_guards by a call ≡ by
plain-same by call Done plain = refl
plain-same by call Failed plain = refl
plain-same by call Unremembered plain = refl
plain-same by call (Came bytes) plain = came-same by call bytes plain
plain-same by call Broken plain = refl
plain-same by call (Said text sends) plain = refl
plain-same by call (Named q) plain = named-same by call q plain
plain-same by call (Digest d) plain = refl

-- ---- changes without a turn

-- a change in front of these tasks is none of a turn, and leaves the node ready
pub record IsCalm (c : Cast) (p : ℕ) (now : ℕ → Process) (by : Bool) (named : List ℕ) (ts : List Task) (x : Change) : Type 0 where
  pub taken : x.taken ≡ None
  pub ready : Ready c p now by named (x.before ++ ts)

abbrev pub AreCalm : Cast → ℕ → (ℕ → Process) → Bool → List ℕ → List Task → Option Change → Type 0
AreCalm c p now by named ts None = Unit {0}
AreCalm c p now by named ts (Some x) = IsCalm c p now by named ts x

module _ (c : Cast) (p : ℕ) (n : Node) (named : List ℕ) where
  pub calm : (by : Bool) (ts : List Task) (x : Change) → x.taken ≡ None → Ready c p n.now by named (x.before ++ ts)
      → IsCalm c p n.now by named ts x
  calm by ts x none ready = record { taken = none; ready = ready }

  pub done-calm : (by : Bool) (why : Stop) (ts : List Task) (a : Answer) → Ready c p n.now by named ts
      → AreCalm c p n.now by named ts (done_or n why [] a)
  done-calm by why ts Done r = calm by ts _ refl r
  done-calm by why ts Failed r = calm by ts _ refl r
  done-calm by why ts Unremembered r = tt
  done-calm by why ts (Came bytes) r = tt
  done-calm by why ts Broken r = tt
  done-calm by why ts (Said text sends) r = tt
  done-calm by why ts (Named q) r = tt
  done-calm by why ts (Digest d) r = tt

  pub step-calm : (by : Bool) (q : ℕ) (e : Event) (ts : List Task) (o : Option EventFault) → (outcome_of c (n.now q) e).verdict ≡ o
      → Turns c p n.now by named q e ts → IsCalm c p n.now by named ts (after_step c n q e o)
  step-calm by q e ts (Some fault) is turns = calm by ts _ refl (turns-rest c p n.now by named q e ts turns)
  step-calm by q e ts None is turns = go (is_full n.gate (entry_for c (n.now q) e))
    where
      rest : Ready c p n.now by named ts
      rest = turns-rest c p n.now by named q e ts turns

      go : (b : Bool) → IsCalm c p n.now by named ts
          (if b then ends n [] (Full (n.gate + 1) (length (entry_bytes (entry_for c (n.now q) e)))) else goes n (Append q e ∷ []))
      go true = calm by ts _ refl rest
      go false = calm by ts _ refl (turns, is)

  posts-quiet : (q : ℕ) (sends : List (ℕ × List ℕ)) → AreQuiet (post_tasks q sends)
  posts-quiet q [] = tt
  posts-quiet q (x ∷ sends) = (tt, posts-quiet q sends)

  pub leaving-calm : (by : Bool) (ts : List Task) (l : Leaving) (a : Answer) → Ready c p n.now by named ts
      → AreCalm c p n.now by named ts (after_leaving n l a)
  unfolding after_leaving
  leaving-calm by ts (Sends q r frame) Done ready = calm by ts _ refl ready
  leaving-calm by ts (Sends q r frame) Failed ready = calm by ts _ refl ready
  leaving-calm by ts (Sends q r frame) Unremembered ready = tt
  leaving-calm by ts (Sends q r frame) (Came bytes) ready = tt
  leaving-calm by ts (Sends q r frame) Broken ready = tt
  leaving-calm by ts (Sends q r frame) (Said text sends) ready = tt
  leaving-calm by ts (Sends q r frame) (Named who) ready = tt
  leaving-calm by ts (Sends q r frame) (Digest d) ready = tt
  leaving-calm by ts (Notes q note) (Said text sends) ready = calm by ts _ refl ready
  leaving-calm by ts (Notes q note) Done ready = tt
  leaving-calm by ts (Notes q note) Failed ready = tt
  leaving-calm by ts (Notes q note) Unremembered ready = tt
  leaving-calm by ts (Notes q note) (Came bytes) ready = tt
  leaving-calm by ts (Notes q note) Broken ready = tt
  leaving-calm by ts (Notes q note) (Named who) ready = tt
  leaving-calm by ts (Notes q note) (Digest d) ready = tt

  -- a task with a plain call, and what is after it
  pub task-calm : (snap : Snapper) (by : Bool) (ts : List Task) (t : Task) (a : Answer) → IsPlain (task_call c n t) → Ready c p n.now by named (t ∷ ts)
      → AreCalm c p n.now by named ts (after_task c snap n t a)
  unfolding after_task
  task-calm snap by ts (Take q e) Done plain ready = step-calm by q e ts (outcome_of c (n.now q) e).verdict refl ready
  task-calm snap by ts (Take q e) Failed plain ready = tt
  task-calm snap by ts (Take q e) Unremembered plain ready = tt
  task-calm snap by ts (Take q e) (Came bytes) plain ready = tt
  task-calm snap by ts (Take q e) Broken plain ready = tt
  task-calm snap by ts (Take q e) (Said text sends) plain ready = tt
  task-calm snap by ts (Take q e) (Named who) plain ready = tt
  task-calm snap by ts (Take q e) (Digest d) plain ready = tt
  task-calm snap by ts (Append q e) a plain ready = absurd plain
  task-calm snap by ts Flush Done plain ready = calm by ts _ refl ready
  task-calm snap by ts Flush Failed plain ready = calm by ts _ refl ready
  task-calm snap by ts Flush Unremembered plain ready = tt
  task-calm snap by ts Flush (Came bytes) plain ready = tt
  task-calm snap by ts Flush Broken plain ready = tt
  task-calm snap by ts Flush (Said text sends) plain ready = tt
  task-calm snap by ts Flush (Named who) plain ready = tt
  task-calm snap by ts Flush (Digest d) plain ready = tt
  task-calm snap by ts (Say text) a plain ready = done-calm by _ ts a ready
  task-calm snap by ts (Ask q e notes above) a plain ready = absurd plain
  task-calm snap by ts (Get q most count) a plain ready = absurd plain
  task-calm snap by ts (Word q line) Done plain ready = calm by ts _ refl (quiet-ready c p n.now by named ts ready)
  task-calm snap by ts (Word q line) Failed plain ready = tt
  task-calm snap by ts (Word q line) Unremembered plain ready = tt
  task-calm snap by ts (Word q line) (Came bytes) plain ready = tt
  task-calm snap by ts (Word q line) Broken plain ready = tt
  task-calm snap by ts (Word q line) (Said text sends) plain ready = calm by ts _ refl
      (quiet-ready c p n.now by named _ (quiet-append (post_tasks q sends ++ Flush ∷ []) ts (quiet-append (post_tasks q sends) (Flush ∷ []) (posts-quiet q sends) (tt, tt)) ready))
  task-calm snap by ts (Word q line) (Named who) plain ready = tt
  task-calm snap by ts (Word q line) (Digest d) plain ready = tt
  task-calm snap by ts (Post q r frame) Done plain ready = calm by ts _ refl (quiet-ready c p n.now by named ts ready)
  task-calm snap by ts (Post q r frame) Failed plain ready = calm by ts _ refl (quiet-ready c p n.now by named ts ready)
  task-calm snap by ts (Post q r frame) Unremembered plain ready = tt
  task-calm snap by ts (Post q r frame) (Came bytes) plain ready = tt
  task-calm snap by ts (Post q r frame) Broken plain ready = tt
  task-calm snap by ts (Post q r frame) (Said text sends) plain ready = tt
  task-calm snap by ts (Post q r frame) (Named who) plain ready = tt
  task-calm snap by ts (Post q r frame) (Digest d) plain ready = tt
  task-calm snap by ts Mark Done plain ready = tt
  task-calm snap by ts Mark Failed plain ready = calm by ts _ refl (quiet-ready c p n.now by named ts ready)
  task-calm snap by ts Mark Unremembered plain ready = tt
  task-calm snap by ts Mark (Came bytes) plain ready = tt
  task-calm snap by ts Mark Broken plain ready = tt
  task-calm snap by ts Mark (Said text sends) plain ready = tt
  task-calm snap by ts Mark (Named who) plain ready = tt
  task-calm snap by ts Mark (Digest d) plain ready = calm by ts _ refl (quiet-ready c p n.now by named ts ready)

  -- ---- what comes

  gets-quiet : (q most count : ℕ) → AreQuiet (more_gets q most count)
  gets-quiet q zero count = (tt, tt)
  gets-quiet q (suc most) count = (tt, tt)

  came-ready : (q : ℕ) (r : Result (ℕ × List ℕ) LinkFault) (ts : List Task) → AreQuiet ts → Ready c p n.now false named (after_came q r ++ ts)
  came-ready q (Ok came) ts quiet = quiet
  came-ready q (Err fault) ts quiet = quiet-ready c p n.now false named ts quiet

  -- a datagram that came is handed in from outside
  pub get-calm : (by : Bool) (q most count : ℕ) (ts : List Task) (a : Answer) → AreQuiet ts
      → AreCalm c p n.now (is_guards by a (ReceivesOn (c.port q))) named ts (after_get c n q most count a)
  get-calm by q zero count ts Done quiet = tt
  get-calm by q zero count ts Failed quiet = tt
  get-calm by q zero count ts Unremembered quiet = tt
  get-calm by q zero count ts (Came bytes) quiet = tt
  get-calm by q zero count ts Broken quiet = tt
  get-calm by q zero count ts (Said text sends) quiet = tt
  get-calm by q zero count ts (Named who) quiet = tt
  get-calm by q zero count ts (Digest d) quiet = tt
  get-calm by q (suc most) count ts Done quiet = calm by ts _ refl (quiet-ready c p n.now by named ts quiet)
  get-calm by q (suc most) count ts Failed quiet = calm by ts _ refl (quiet-ready c p n.now by named ts quiet)
  get-calm by q (suc most) count ts Unremembered quiet = tt
  get-calm by q (suc most) count ts (Came bytes) quiet = calm false ts _ refl
      (subst (λ (us : List Task). Ready c p n.now false named us)
      (sym (append_assoc (after_came q (c.unseal q bytes)) (more_gets q most (count + 1)) ts))
      (came-ready q (c.unseal q bytes) (more_gets q most (count + 1) ++ ts)
      (quiet-append (more_gets q most (count + 1)) ts (gets-quiet q most (count + 1)) quiet)))
  get-calm by q (suc most) count ts Broken quiet = tt
  get-calm by q (suc most) count ts (Said text sends) quiet = tt
  get-calm by q (suc most) count ts (Named who) quiet = tt
  get-calm by q (suc most) count ts (Digest d) quiet = tt

  -- a line that was read is, too
  pub read-calm : (by : Bool) (a : Answer) → AreCalm c p n.now (is_guards by a ReadsLine) named [] (after_read c n a)
  unfolding after_read
  read-calm by Done = calm by [] _ refl tt
  read-calm by Failed = calm by [] _ refl tt
  read-calm by Broken = calm by [] _ refl tt
  read-calm by (Came line) = most (n.script == most_lines)
    where
      said : (o : Option Line) → IsCalm c p n.now false named [] (after_line n line o)
      said None = calm false [] _ refl tt
      said (Some Snap) = calm false [] _ refl tt
      said (Some (Of q (Hand e))) = calm false [] _ refl tt
      said (Some (Of q (Receive most))) = calm false [] _ refl tt
      said (Some (Of q Other)) = calm false [] _ refl tt

      most : (b : Bool) → IsCalm c p n.now false named []
          (if b then ends n [] (BadLine (n.lines + 1)) else after_line n line (line_said c.hosted line))
      most true = calm false [] _ refl tt
      most false = said (line_said c.hosted line)
  read-calm by Unremembered = tt
  read-calm by (Said text sends) = tt
  read-calm by (Named who) = tt
  read-calm by (Digest d) = tt
