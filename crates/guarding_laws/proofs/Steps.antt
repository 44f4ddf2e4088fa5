-- A process goes on as a guard, answer by answer.
use Rattle.std.proofs.Common.{◌≡◌, ℕ, List, [], ◌∷◌, ◌++◌, Bool, true, false, refl, sym, ap, ◌∙◌, subst, Option, Some, None}
use Rattle.std.specs.Prelude.{◌==◌, if◌then◌else◌, filter, option_map, IsTrue, Contains}
use Rattle.std.proofs.lemmas.Bool.{eqb-true, eq-eqb}
use Rattle.std.proofs.lemmas.List.{append-nil, append_assoc, map-append}
use Rattle.std.specs.Option.{option_to_list}
use Rattle.group_defs.specs.Process.{Process}
use Rattle.group_defs.specs.Events.{Note, after}
use Rattle.journal_defs.specs.Entries.{Event, Submit, Frame, Suspect, Join, Renew, Tick, Entry}
use Rattle.guard_defs.specs.Guarding.{GuardRun, MayAdd, is_above, may_expel, next_suspect, shown_behind, shown_by}
use Rattle.guard_service.specs.Answers.{AnswersOf, AreGuards}
use Rattle.node_defs.specs.Lines.{Stop}
use Rattle.node_defs.specs.Lives.{AreNumbered, staged, staged_behind, staged_by}
use Rattle.node_defs.specs.Casts.{Cast, handed, live, outcome_of, entry_for, kept_turn}
use Rattle.node_defs.specs.Nodes.{Node, Opening, Bind, Greet, Serve, Finish, Leaving, Sends, Notes, Task, Take, Append, Flush, Say, Ask, Get, Word, Post, Mark, Call, Appends, Asks, ReceivesOn, ReadsLine, Rests, Answer, Done, Failed, Unremembered, Came, Broken, Said, Named, Digest, Change, Snapper, goes, asks, after_get, after_task, after_leaving, after_read, new_entry, with_turn, changed, if_fits, counts, by_tasks, by_leaving, opened_one, by_opening, by_answer, unless_stopped, answered, run, calls, opening_call, leaving_call, task_call, call_of_tasks, call_of_leaving, call_of_opening, call_of}
use Rattle.node_laws.proofs.Soundness.{opens-only}
use Rattle.node_traces.specs.Service.{Asked, asking, asked_by}
use Rattle.pool_laws.proofs.Members.{filter-mem, find-is, mem-Contains}
use Rattle.guarding_laws.specs.Marks.{Marked, entries_in, is_guards, is_guards_after, mark, marks, given_from, marks_of}
use Rattle.guarding_laws.proofs.Turns.{me-after, shows, own-turn, own-mark, other-mark}
use Rattle.guarding_laws.proofs.Calm.{AreQuiet, Turns, Ready, quiet-ready, IsPlain, plain-none, plain-same, AreCalm, leaving-calm, task-calm, get-calm, read-calm}

-- what was answered as a guard does, in two parts
guards-split : (xs ys : List Asked) → AreGuards (xs ++ ys) → AreGuards xs × AreGuards ys
guards-split [] ys are = (tt, are)
guards-split (x ∷ xs) ys are = let rest = guards-split xs ys are.1 in ((are.0, rest.0), rest.1)

module _ (c : Cast) (snap : Snapper) (p : ℕ) where
  -- Node n made a call that has this answer, and is m then. Process p is a guard that goes on: whatever it appends from m on, it is one with
  -- what it appends from n on.
  pub record Stepped (n : Node) (by : Bool) (named : List ℕ) (call : Call) (a : Answer) (m : Node) : Type 0 where
    pub named_now : List ℕ
    pub ready : Ready c p m.now (is_guards by a call) named_now m.tasks
    pub numbered : AreNumbered m.now
    pub kept : m.kept ≡ n.kept ++ entries_in (mark by a call)
    pub on : (more : List Marked) → GuardRun c.setting (m.now p) named_now (given_from c.setting (m.now p) (marks_of p more))
        → GuardRun c.setting (n.now p) named (given_from c.setting (n.now p) (marks_of p (mark by a call ++ more)))

  -- nothing was appended, and the processes are the same
  still : (n m : Node) (by : Bool) (named : List ℕ) (call : Call) (a : Answer) → mark by a call ≡ [] → m.now ≡ n.now
      → m.kept ≡ n.kept → AreNumbered n.now → Ready c p n.now (is_guards by a call) named m.tasks → Stepped n by named call a m
  still n m by named call a none now kept numbered ready = record {
    named_now = named;
    ready = subst (λ (f : ℕ → Process). Ready c p f (is_guards by a call) named m.tasks) (sym now) ready;
    numbered = subst (λ (f : ℕ → Process). AreNumbered f) (sym now) numbered;
    kept = kept ∙ sym (append-nil n.kept) ∙ ap (λ (ms : List Marked). n.kept ++ entries_in ms) (sym none);
    on = λ more run. subst (λ (ms : List Marked). GuardRun c.setting (n.now p) named (given_from c.setting (n.now p) (marks_of p (ms ++ more)))) (sym none)
        (subst (λ (x : Process). GuardRun c.setting x named (given_from c.setting x (marks_of p more)))
        (ap (λ (f : ℕ → Process). f p) now) run);
  }

  -- no turn, no change of the processes
  unturned : (n : Node) (t : Option (ℕ × Event)) → t ≡ None → with_turn c n t ≡ n.now
  unturned n t none = subst (λ (o : Option (ℕ × Event)). with_turn c n o ≡ n.now) (sym none) refl

  unwritten : (n : Node) (t : Option (ℕ × Event)) → t ≡ None → n.kept ++ new_entry c n t ≡ n.kept
  unwritten n t none = subst (λ (o : Option (ℕ × Event)). n.kept ++ new_entry c n o ≡ n.kept) (sym none) (append-nil n.kept)

  calmed : (n : Node) (by : Bool) (named : List ℕ) (call : Call) (a : Answer) (ls : List Leaving) (ts : List Task) (x : Option Change)
      → mark by a call ≡ [] → AreNumbered n.now → AreCalm c p n.now (is_guards by a call) named ts x
      → Ready c p n.now (is_guards by a call) named n.tasks → Stepped n by named call a (if_fits c n ls ts x)
  calmed n by named call a ls ts None none numbered calm ready = still n n by named call a none refl refl numbered ready
  calmed n by named call a ls ts (Some x) none numbered calm ready =
      still n (changed c n ls ts x) by named call a none (unturned n x.taken calm.taken)
      (unwritten n x.taken calm.taken) numbered calm.ready

  -- of a plain call
  same-ready : (n : Node) (by : Bool) (named : List ℕ) (call : Call) (a : Answer) (ts : List Task) → IsPlain call → Ready c p n.now by named ts
      → Ready c p n.now (is_guards by a call) named ts
  same-ready n by named call a ts plain ready = subst (λ (b : Bool). Ready c p n.now b named ts) (sym (plain-same by call a plain)) ready

  same-calm : (n : Node) (by : Bool) (named : List ℕ) (call : Call) (a : Answer) (ts : List Task) (x : Option Change) → IsPlain call
      → AreCalm c p n.now by named ts x → AreCalm c p n.now (is_guards by a call) named ts x
  same-calm n by named call a ts x plain calm = subst (λ (b : Bool). AreCalm c p n.now b named ts x) (sym (plain-same by call a plain)) calm

  plainly : (n : Node) (by : Bool) (named : List ℕ) (call : Call) (a : Answer) (ls : List Leaving) (ts : List Task) (x : Option Change)
      → IsPlain call → AreNumbered n.now → AreCalm c p n.now by named ts x → Ready c p n.now by named n.tasks
      → Stepped n by named call a (if_fits c n ls ts x)
  plainly n by named call a ls ts x plain numbered calm ready = calmed n by named call a ls ts x (plain-none by call a plain) numbered
      (same-calm n by named call a ts x plain calm) (same-ready n by named call a n.tasks plain ready)

  -- ---- a turn

  turned-me : (n : Node) (q : ℕ) (e : Event) → AreNumbered n.now → AreNumbered (with_turn c n (Some (q, e)))
  turned-me n q e numbered r = go (r == q)
    where
      go : (b : Bool) → (if b then after c.setting (n.now r) (live c (n.now r) e) else n.now r).me ≡ r
      go true = me-after c (n.now r) e ∙ numbered r
      go false = numbered r

  may-add : (n : Node) (by : Bool) (named : List ℕ) (e : Event) (ts : List Task) → Turns c p n.now by named p e ts → IsTrue by
      → MayAdd (n.now p) named (kept_turn (n.now p) (entry_for c (n.now p) e))
  may-add n false named e ts turns added = absurd cc
  may-add n true named (Suspect who) (Ask r frame notes above ∷ ts) turns added = (who, refl, (turns.0 refl).0, (turns.0 refl).1)
  may-add n true named (Suspect who) [] turns added = absurd turns
  may-add n true named (Suspect who) (Take r f ∷ ts) turns added = absurd turns
  may-add n true named (Suspect who) (Append r f ∷ ts) turns added = absurd turns
  may-add n true named (Suspect who) (Flush ∷ ts) turns added = absurd turns
  may-add n true named (Suspect who) (Say text ∷ ts) turns added = absurd turns
  may-add n true named (Suspect who) (Get r most count ∷ ts) turns added = absurd turns
  may-add n true named (Suspect who) (Word r line ∷ ts) turns added = absurd turns
  may-add n true named (Suspect who) (Post r k frame ∷ ts) turns added = absurd turns
  may-add n true named (Suspect who) (Mark ∷ ts) turns added = absurd turns
  may-add n true named (Submit payload) ts turns added = absurd turns
  may-add n true named (Frame from bytes) ts turns added = absurd turns
  may-add n true named (Join r) ts turns added = absurd turns
  may-add n true named Renew ts turns added = absurd turns
  may-add n true named Tick ts turns added = absurd turns

  -- after a turn, and these were shown: the service is asked where it was a frame's, or asked again
  asked-next : (n m : Node) (by : Bool) (named named_now : List ℕ) (q : ℕ) (e : Event) (ts : List Task) → Turns c p n.now by named q e ts
      → (by ≡ true → named_now ≡ named)
      → (by ≡ false → q ≡ p → named_now ≡ shown_by c.setting (handed e) (outcome_of c (n.now q) e).notes)
      → Ready c p m.now by named_now (asks q e (outcome_of c (n.now q) e).notes ++ ts)
  asked-next n m false named named_now q (Frame from bytes) ts turns same shown = (shown refl, turns)
  asked-next n m false named named_now q (Suspect who) ts turns same shown = quiet-ready c p m.now false named_now ts turns
  asked-next n m false named named_now q (Submit payload) ts turns same shown = quiet-ready c p m.now false named_now ts turns
  asked-next n m false named named_now q (Join r) ts turns same shown = quiet-ready c p m.now false named_now ts turns
  asked-next n m false named named_now q Renew ts turns same shown = quiet-ready c p m.now false named_now ts turns
  asked-next n m false named named_now q Tick ts turns same shown = quiet-ready c p m.now false named_now ts turns
  asked-next n m true named named_now q (Suspect who) (Ask r frame notes above ∷ ts) turns same shown =
      (λ is. same refl ∙ turns.1 is, turns.2)
  asked-next n m true named named_now q (Suspect who) [] turns same shown = absurd turns
  asked-next n m true named named_now q (Suspect who) (Take r f ∷ ts) turns same shown = absurd turns
  asked-next n m true named named_now q (Suspect who) (Append r f ∷ ts) turns same shown = absurd turns
  asked-next n m true named named_now q (Suspect who) (Flush ∷ ts) turns same shown = absurd turns
  asked-next n m true named named_now q (Suspect who) (Say text ∷ ts) turns same shown = absurd turns
  asked-next n m true named named_now q (Suspect who) (Get r most count ∷ ts) turns same shown = absurd turns
  asked-next n m true named named_now q (Suspect who) (Word r line ∷ ts) turns same shown = absurd turns
  asked-next n m true named named_now q (Suspect who) (Post r k frame ∷ ts) turns same shown = absurd turns
  asked-next n m true named named_now q (Suspect who) (Mark ∷ ts) turns same shown = absurd turns
  asked-next n m true named named_now q (Submit payload) ts turns same shown = absurd turns
  asked-next n m true named named_now q (Frame from bytes) ts turns same shown = absurd turns
  asked-next n m true named named_now q (Join r) ts turns same shown = absurd turns
  asked-next n m true named named_now q Renew ts turns same shown = absurd turns
  asked-next n m true named named_now q Tick ts turns same shown = absurd turns

  -- the change of a turn whose entry was appended
  abbrev turned : Node → ℕ → Event → List Task → Node
  turned n q e ts = changed c n [] ts (record (goes n (Flush ∷ asks q e (outcome_of c (n.now q) e).notes)) { taken = Some (q, e) })

  -- of the process itself
  own-taken : (n : Node) (by : Bool) (named : List ℕ) (e : Event) (ts : List Task) → AreNumbered n.now → Turns c p n.now by named p e ts
      → (outcome_of c (n.now p) e).verdict ≡ None → Stepped n by named (Appends (entry_for c (n.now p) e)) Done (turned n p e ts)
  own-taken n by named e ts numbered turns none = record {
    named_now = next by;
    ready = asked-next n (turned n p e ts) by named (next by) p e ts turns (λ is. ap next is) (λ is own. ap next is);
    numbered = turned-me n p e numbered;
    kept = refl;
    on = λ more run. subst (λ (ms : List Marked). GuardRun c.setting (n.now p) named (given_from c.setting (n.now p) ms))
        (sym (own-mark p (record { entry = entry_for c (n.now p) e; added = by }) more (numbered p)))
        (own-turn c (n.now p) e by named (next by) (marks_of p more) (may-add n by named e ts turns) (behind by)
        (subst (λ (x : Process). GuardRun c.setting x (next by) (given_from c.setting x (marks_of p more)))
        (ap (λ b. if b then after c.setting (n.now p) (live c (n.now p) e) else n.now p) (eq-eqb p p refl)) run));
  }
    where
      next : Bool → List ℕ
      next b = if b then named else shown_by c.setting (handed e) (outcome_of c (n.now p) e).notes

      behind : (b : Bool) → shown_behind c.setting (n.now p) named (record { turn = kept_turn (n.now p) (entry_for c (n.now p) e); added = b }) ≡ next b
      behind true = refl
      behind false = shows c (n.now p) e none

  -- of another
  other-taken : (n : Node) (by : Bool) (named : List ℕ) (q : ℕ) (e : Event) (ts : List Task) → AreNumbered n.now → Turns c p n.now by named q e ts
      → (p == q) ≡ false → Stepped n by named (Appends (entry_for c (n.now q) e)) Done (turned n q e ts)
  other-taken n by named q e ts numbered turns not = record {
    named_now = named;
    ready = asked-next n (turned n q e ts) by named named q e ts turns (λ is. refl) (λ is own. absurd (differ own));
    numbered = turned-me n q e numbered;
    kept = refl;
    on = λ more run. subst (λ (ms : List Marked). GuardRun c.setting (n.now p) named (given_from c.setting (n.now p) ms))
        (sym (other-mark p (record { entry = entry_for c (n.now q) e; added = by }) more away))
        (subst (λ (x : Process). GuardRun c.setting x named (given_from c.setting x (marks_of p more)))
        (ap (λ b. if b then after c.setting (n.now p) (live c (n.now p) e) else n.now p) not) run);
  }
    where
      differ : q ≡ p → ⊥
      differ is = let same = eq-eqb p q (sym is) in cc

      away : ((entry_for c (n.now q) e).process == p) ≡ false
      away = go ((n.now q).me == p) refl
        where
          go : (b : Bool) → ((n.now q).me == p) ≡ b → b ≡ false
          go false is = refl
          go true is = absurd (differ (sym (numbered q) ∙ eqb-true (n.now q).me p is))

  taken : (n : Node) (by : Bool) (named : List ℕ) (q : ℕ) (e : Event) (ts : List Task) → AreNumbered n.now → Turns c p n.now by named q e ts
      → (outcome_of c (n.now q) e).verdict ≡ None → Stepped n by named (Appends (entry_for c (n.now q) e)) Done (turned n q e ts)
  taken n by named q e ts numbered turns none = go (p == q) refl
    where
      go : (b : Bool) → (p == q) ≡ b → Stepped n by named (Appends (entry_for c (n.now q) e)) Done (turned n q e ts)
      go false not = other-taken n by named q e ts numbered turns not
      go true is = subst (λ (r : ℕ). Turns c p n.now by named r e ts → (outcome_of c (n.now r) e).verdict ≡ None
          → Stepped n by named (Appends (entry_for c (n.now r) e)) Done (turned n r e ts)) (eqb-true p q is)
          (λ own took. own-taken n by named e ts numbered own took) turns none

  -- ---- a name

  -- whom the service names is the one whom the definitions name
  who-is : (now : Process) (q : ℕ) (e : Event) (notes : List Note) (above : Option ℕ) (who : ℕ)
      → AnswersOf c.setting (now ∷ []) (Asks q e notes above) (Named who) → next_suspect c.setting (handed e) notes now above ≡ Some who
  who-is now q e notes above who answers = go (next_suspect c.setting (handed e) notes now above) refl
    where
      go : (o : Option ℕ) → next_suspect c.setting (handed e) notes now above ≡ o → o ≡ Some who
      go None is = let no : Named who ≡ Done = rw is at answers in absurd cc
      go (Some r) is = let one : Named who ≡ Named r = rw is at answers in cc

  -- whom a guard's service names was shown, and may be expelled
  shown-named : (n : Node) (named : List ℕ) (q : ℕ) (e : Event) (notes : List Note) (above : Option ℕ) (who : ℕ)
      → AnswersOf c.setting (n.now q ∷ []) (Asks q e notes above) (Named who)
      → named ≡ shown_by c.setting (handed e) notes → Contains named who × IsTrue (may_expel (n.now q) who)
  shown-named n named q e notes above who answers same =
      let found = find-is (may_expel (n.now q)) (filter (is_above above) (shown_by c.setting (handed e) notes)) who
      (who-is (n.now q) q e notes above who answers) in (
        subst (λ (ns : List ℕ). Contains ns who) (sym same)
            (mem-Contains (shown_by c.setting (handed e) notes) who
            (filter-mem (is_above above) (shown_by c.setting (handed e) notes) who found.0).0),
        found.1,
      )

  -- ---- an answer to a task

  appends-step : (n : Node) (by : Bool) (named : List ℕ) (q : ℕ) (e : Event) (ts : List Task) (a : Answer) → AreNumbered n.now
      → Turns c p n.now by named q e ts × ((outcome_of c (n.now q) e).verdict ≡ None) → Ready c p n.now by named n.tasks
      → Stepped n by named (Appends (entry_for c (n.now q) e)) a (if_fits c n [] ts (after_task c snap n (Append q e) a))
  unfolding after_task
  appends-step n by named q e ts Done numbered ready kept = taken n by named q e ts numbered ready.0 ready.1
  appends-step n by named q e ts Failed numbered ready kept =
      calmed n by named (Appends (entry_for c (n.now q) e)) Failed [] ts (after_task c snap n (Append q e) Failed) refl numbered (record { taken = refl; ready = ready }) kept
  appends-step n by named q e ts Unremembered numbered ready kept = still n n by named _ Unremembered refl refl refl numbered kept
  appends-step n by named q e ts (Came bytes) numbered ready kept = still n n by named _ (Came bytes) refl refl refl numbered kept
  appends-step n by named q e ts Broken numbered ready kept = still n n by named _ Broken refl refl refl numbered kept
  appends-step n by named q e ts (Said text sends) numbered ready kept = still n n by named _ (Said text sends) refl refl refl numbered kept
  appends-step n by named q e ts (Named who) numbered ready kept = still n n by named _ (Named who) refl refl refl numbered kept
  appends-step n by named q e ts (Digest d) numbered ready kept = still n n by named _ (Digest d) refl refl refl numbered kept

  asks-step : (n : Node) (by : Bool) (named : List ℕ) (q : ℕ) (e : Event) (notes : List Note) (above : Option ℕ) (ts : List Task) (a : Answer)
      → AreNumbered n.now → AreGuards (asking c n.now (Asks q e notes above) a)
      → (q ≡ p → named ≡ shown_by c.setting (handed e) notes) × AreQuiet ts → Ready c p n.now by named n.tasks
      → Stepped n by named (Asks q e notes above) a (if_fits c n [] ts (after_task c snap n (Ask q e notes above) a))
  unfolding after_task
  asks-step n by named q e notes above ts Done numbered are ready kept =
      calmed n by named (Asks q e notes above) Done [] ts (after_task c snap n (Ask q e notes above) Done) refl numbered (record { taken = refl; ready = quiet-ready c p n.now by named ts ready.1 }) kept
  asks-step n by named q e notes above ts (Named who) numbered are ready kept = still n _ by named _ (Named who) refl refl (append-nil n.kept) numbered
      (λ is. shown-named n named q e notes above who are.0 (ready.0 is), ready.0, ready.1)
  asks-step n by named q e notes above ts Failed numbered are ready kept = still n n by named _ Failed refl refl refl numbered kept
  asks-step n by named q e notes above ts Unremembered numbered are ready kept = still n n by named _ Unremembered refl refl refl numbered kept
  asks-step n by named q e notes above ts (Came bytes) numbered are ready kept = still n n by named _ (Came bytes) refl refl refl numbered kept
  asks-step n by named q e notes above ts Broken numbered are ready kept = still n n by named _ Broken refl refl refl numbered kept
  asks-step n by named q e notes above ts (Said text sends) numbered are ready kept = still n n by named _ (Said text sends) refl refl refl numbered kept
  asks-step n by named q e notes above ts (Digest d) numbered are ready kept = still n n by named _ (Digest d) refl refl refl numbered kept

  none-came : (by : Bool) (a : Answer) (port : ℕ) → mark by a (ReceivesOn port) ≡ []
  none-came by Done port = refl
  none-came by Failed port = refl
  none-came by Unremembered port = refl
  none-came by (Came bytes) port = refl
  none-came by Broken port = refl
  none-came by (Said text sends) port = refl
  none-came by (Named who) port = refl
  none-came by (Digest d) port = refl

  none-read : (by : Bool) (a : Answer) → mark by a ReadsLine ≡ []
  none-read by Done = refl
  none-read by Failed = refl
  none-read by Unremembered = refl
  none-read by (Came bytes) = refl
  none-read by Broken = refl
  none-read by (Said text sends) = refl
  none-read by (Named who) = refl
  none-read by (Digest d) = refl

  gets-step : (n : Node) (by : Bool) (named : List ℕ) (q most count : ℕ) (ts : List Task) (a : Answer) → AreNumbered n.now → AreQuiet ts
      → Ready c p n.now (is_guards by a (ReceivesOn (c.port q))) named n.tasks
      → Stepped n by named (ReceivesOn (c.port q)) a (if_fits c n [] ts (after_task c snap n (Get q most count) a))
  unfolding after_task
  gets-step n by named q most count ts a numbered quiet kept = calmed n by named (ReceivesOn (c.port q)) a [] ts (after_get c n q most count a)
      (none-came by a (c.port q)) numbered (get-calm c p n named by q most count ts a quiet) kept

  -- of a task, by its call
  plain-task : (n : Node) (by : Bool) (named : List ℕ) (t : Task) (ts : List Task) (a : Answer) → IsPlain (task_call c n t) → AreNumbered n.now
      → Ready c p n.now by named (t ∷ ts) → n.tasks ≡ t ∷ ts
      → Stepped n by named (task_call c n t) a (if_fits c n [] ts (after_task c snap n t a))
  plain-task n by named t ts a plain numbered ready is = plainly n by named (task_call c n t) a [] ts (after_task c snap n t a) plain numbered
      (task-calm c p n named snap by ts t a plain ready) (subst (λ (us : List Task). Ready c p n.now by named us) (sym is) ready)

  task-step : (n : Node) (by : Bool) (named : List ℕ) (t : Task) (ts : List Task) (a : Answer) → AreNumbered n.now
      → Ready c p n.now by named (t ∷ ts) → n.tasks ≡ t ∷ ts → AreGuards (asking c n.now (task_call c n t) a)
      → Stepped n by named (task_call c n t) a (if_fits c n [] ts (after_task c snap n t a))
  task-step n by named (Append q e) ts a numbered ready is are = appends-step n by named q e ts a numbered ready
      (subst (λ (us : List Task). Ready c p n.now by named us) (sym is) ready)
  task-step n by named (Ask q e notes above) ts a numbered ready is are = asks-step n by named q e notes above ts a numbered are ready
      (subst (λ (us : List Task). Ready c p n.now by named us) (sym is) ready)
  task-step n by named (Get q most count) ts a numbered ready is are = gets-step n by named q most count ts a numbered ready
      (subst (λ (us : List Task). Ready c p n.now (is_guards by a (ReceivesOn (c.port q))) named us) (sym is) ready)
  task-step n by named (Take q e) ts a numbered ready is are = plain-task n by named (Take q e) ts a tt numbered ready is
  task-step n by named Flush ts a numbered ready is are = plain-task n by named Flush ts a tt numbered ready is
  task-step n by named (Say text) ts a numbered ready is are = plain-task n by named (Say text) ts a tt numbered ready is
  task-step n by named (Word q line) ts a numbered ready is are = plain-task n by named (Word q line) ts a tt numbered ready is
  task-step n by named (Post q r frame) ts a numbered ready is are = plain-task n by named (Post q r frame) ts a tt numbered ready is
  task-step n by named Mark ts a numbered ready is are = plain-task n by named Mark ts a tt numbered ready is

  -- ---- any answer

  -- a line that was read is counted
  counted : (n : Node) (by : Bool) (named : List ℕ) (call : Call) (a : Answer) (m : Node) → Stepped n by named call a m
      → Stepped n by named call a (counts m a)
  counted n by named call Done m s = s
  counted n by named call Failed m s = s
  counted n by named call Unremembered m s = s
  counted n by named call Broken m s = s
  counted n by named call (Said text sends) m s = s
  counted n by named call (Named who) m s = s
  counted n by named call (Digest d) m s = s
  counted n by named call (Came bytes) m s = record { named_now = s.named_now; ready = s.ready; numbered = s.numbered; kept = s.kept; on = s.on }

  tasks-step : (n : Node) (by : Bool) (named : List ℕ) (a : Answer) (ts : List Task) → n.tasks ≡ ts → AreNumbered n.now
      → Ready c p n.now by named ts → AreGuards (asking c n.now (call_of_tasks c n ts) a)
      → Stepped n by named (call_of_tasks c n ts) a (by_tasks c snap n a ts)
  tasks-step n by named a [] is numbered ready are = counted n by named ReadsLine a _
      (calmed n by named ReadsLine a [] [] (after_read c n a) (none-read by a) numbered (read-calm c p n named by a)
      (subst (λ (us : List Task). Ready c p n.now (is_guards by a ReadsLine) named us) (sym is) tt))
  tasks-step n by named a (t ∷ ts) is numbered ready are = task-step n by named t ts a numbered ready is are

  leaving-plain : (l : Leaving) → IsPlain (leaving_call c l)
  leaving-plain (Sends q r frame) = tt
  leaving-plain (Notes q note) = tt

  leaving-step : (n : Node) (by : Bool) (named : List ℕ) (a : Answer) (ls : List Leaving) → AreNumbered n.now → Ready c p n.now by named n.tasks
      → AreGuards (asking c n.now (call_of_leaving c n ls) a) → Stepped n by named (call_of_leaving c n ls) a (by_leaving c snap n a ls)
  leaving-step n by named a [] numbered ready are = tasks-step n by named a n.tasks refl numbered ready are
  leaving-step n by named a (l ∷ ls) numbered ready are = plainly n by named (leaving_call c l) a ls n.tasks (after_leaving n l a)
      (leaving-plain l) numbered (leaving-calm c p n named by n.tasks l a ready) ready

  opening-plain : (o : Opening) → IsPlain (opening_call o)
  opening-plain (Bind port) = tt
  opening-plain (Greet text) = tt
  opening-plain Serve = tt
  opening-plain Finish = tt

  opening-step : (n : Node) (by : Bool) (named : List ℕ) (a : Answer) (os : List Opening) → AreNumbered n.now → Ready c p n.now by named n.tasks
      → AreGuards (asking c n.now (call_of_opening c n os) a) → Stepped n by named (call_of_opening c n os) a (by_opening c snap n a os)
  opening-step n by named a [] numbered ready are = leaving-step n by named a n.leaving numbered ready are
  opening-step n by named a (o ∷ os) numbered ready are =
      let only = opens-only n os o a in
      let call = opening_call o in
      still n (opened_one n os o a) by named call a (plain-none by call a (opening-plain o)) only.now only.kept numbered
      (subst (λ (us : List Task). Ready c p n.now (is_guards by a call) named us) (sym only.tasks)
      (same-ready n by named call a n.tasks (opening-plain o) ready))

  answer-step : (n : Node) (by : Bool) (named : List ℕ) (a : Answer) → AreNumbered n.now → Ready c p n.now by named n.tasks
      → AreGuards (asking c n.now (call_of_opening c n n.opening) a)
      → Stepped n by named (call_of_opening c n n.opening) a (by_answer c snap n a)
  answer-step n by named Done numbered ready are = opening-step n by named Done n.opening numbered ready are
  answer-step n by named Failed numbered ready are = opening-step n by named Failed n.opening numbered ready are
  answer-step n by named (Came bytes) numbered ready are = opening-step n by named (Came bytes) n.opening numbered ready are
  answer-step n by named Broken numbered ready are = opening-step n by named Broken n.opening numbered ready are
  answer-step n by named (Said text sends) numbered ready are = opening-step n by named (Said text sends) n.opening numbered ready are
  answer-step n by named (Named who) numbered ready are = opening-step n by named (Named who) n.opening numbered ready are
  answer-step n by named (Digest d) numbered ready are = opening-step n by named (Digest d) n.opening numbered ready are
  answer-step n by named Unremembered numbered ready are = still n _ by named _ Unremembered refl refl refl numbered ready

  step : (n : Node) (by : Bool) (named : List ℕ) (a : Answer) → AreNumbered n.now → Ready c p n.now by named n.tasks
      → AreGuards (asking c n.now (call_of c n) a) → Stepped n by named (call_of c n) a (answered c snap n a)
  unfolding call_of answered
  step n by named a numbered ready are = go n.stopped are
    where
      go : (o : Option Stop) → AreGuards (asking c n.now (elim o [ Some why ↦ Rests | None ↦ call_of_opening c n n.opening ]) a)
          → Stepped n by named (elim o [ Some why ↦ Rests | None ↦ call_of_opening c n n.opening ]) a (unless_stopped c snap n a o)
      go None are = answer-step n by named a numbered ready are
      go (Some why) are = still n n by named Rests a (plain-none by Rests a tt) refl refl numbered (same-ready n by named Rests a n.tasks tt ready)

  -- ---- a run

  -- what is marked after the run, by its last node, where that too is the guard's or handed in
  abbrev pub Ends : (Bool → Node → List Marked) → Type 0
  Ends tail = (n : Node) (by : Bool) (named : List ℕ) → AreNumbered n.now → Ready c p n.now by named n.tasks
      → GuardRun c.setting (n.now p) named (given_from c.setting (n.now p) (marks_of p (tail by n)))

  pub run-on : (tail : Bool → Node → List Marked) → Ends tail → (n : Node) (by : Bool) (named : List ℕ) (answers : List Answer)
      → AreNumbered n.now → Ready c p n.now by named n.tasks → AreGuards (asked_by c snap n answers)
      → GuardRun c.setting (n.now p) named (given_from c.setting (n.now p)
      (marks_of p (marks by (calls c snap n answers) ++ tail (is_guards_after by (calls c snap n answers)) (run c snap n answers))))
  unfolding asked_by calls marks is_guards_after run
  run-on tail ends n by named [] numbered ready are = ends n by named numbered ready
  run-on tail ends n by named (a ∷ more) numbered ready are =
      let next = answered c snap n a in
      let after_it = is_guards by a (call_of c n) in
      let parts = guards-split (asking c n.now (call_of c n) a) (asked_by c snap next more) are in
      let s = step n by named a numbered ready parts.0 in
      let rest = marks after_it (calls c snap next more) in
      let last = tail (is_guards_after after_it (calls c snap next more)) (run c snap next more) in
      subst (λ (ms : List Marked). GuardRun c.setting (n.now p) named (given_from c.setting (n.now p) (marks_of p ms)))
      (sym (append_assoc (mark by a (call_of c n)) rest last))
      (s.on (rest ++ last) (run-on tail ends next after_it s.named_now more s.numbered s.ready parts.1))

  -- nothing more
  pub none-after : Ends (λ by n. [])
  unfolding given_from
  none-after n by named numbered ready = tt

  -- it goes on with an entry that was staged, if one was
  abbrev GoesWith : Node → Bool → List ℕ → Option Entry → Type 0
  GoesWith n by named o = GuardRun c.setting (n.now p) named
      (given_from c.setting (n.now p) (marks_of p (option_to_list (option_map (λ (e : Entry). record { entry = e; added = by }) o))))

  none-staged : (n : Node) (by : Bool) (named : List ℕ) → GoesWith n by named None
  unfolding given_from
  none-staged n by named = tt

  first-staged : (n : Node) (by : Bool) (named : List ℕ) (ts : List Task) → AreNumbered n.now → Ready c p n.now by named ts
      → GoesWith n by named (staged_by c n ts)
  unfolding given_from
  first-staged n by named [] numbered ready = tt
  first-staged n by named (Append q e ∷ ts) numbered ready = (taken n by named q e ts numbered ready.0 ready.1).on [] tt
  first-staged n by named (Take q e ∷ ts) numbered ready = tt
  first-staged n by named (Flush ∷ ts) numbered ready = tt
  first-staged n by named (Say text ∷ ts) numbered ready = tt
  first-staged n by named (Ask q e notes above ∷ ts) numbered ready = tt
  first-staged n by named (Get q most count ∷ ts) numbered ready = tt
  first-staged n by named (Word q line ∷ ts) numbered ready = tt
  first-staged n by named (Post q r frame ∷ ts) numbered ready = tt
  first-staged n by named (Mark ∷ ts) numbered ready = tt

  pub staged-after : Ends (λ by n. option_to_list (option_map (λ (e : Entry). record { entry = e; added = by }) (staged c n)))
  unfolding staged
  staged-after n by named numbered ready = behind n.leaving
    where
      behind : (ls : List Leaving) → GoesWith n by named (staged_behind c n ls)
      behind [] = first-staged n by named n.tasks numbered ready
      behind (l ∷ ls) = none-staged n by named

  -- the journal holds what it held, and then what was marked
  pub run-kept : (n : Node) (by : Bool) (named : List ℕ) (answers : List Answer) → AreNumbered n.now → Ready c p n.now by named n.tasks
      → AreGuards (asked_by c snap n answers) → (run c snap n answers).kept ≡ n.kept ++ entries_in (marks by (calls c snap n answers))
  unfolding asked_by calls marks run
  run-kept n by named [] numbered ready are = sym (append-nil n.kept)
  run-kept n by named (a ∷ more) numbered ready are =
      let next = answered c snap n a in
      let after_it = is_guards by a (call_of c n) in
      let parts = guards-split (asking c n.now (call_of c n) a) (asked_by c snap next more) are in
      let s = step n by named a numbered ready parts.0 in
      let one = mark by a (call_of c n) in
      let rest = marks after_it (calls c snap next more) in
      run-kept next after_it s.named_now more s.numbered s.ready parts.1
      ∙ ap (λ (es : List Entry). es ++ entries_in rest) s.kept
      ∙ append_assoc n.kept (entries_in one) (entries_in rest)
      ∙ ap (λ (es : List Entry). n.kept ++ es) (sym (map-append (λ (m : Marked). m.entry) one rest))

  rests : (n : Node) (why : Stop) → n.stopped ≡ Some why → call_of c n ≡ Rests
  unfolding call_of
  rests n why is = ap (λ (o : Option Stop). elim o [ Some w ↦ Rests | None ↦ call_of_opening c n n.opening ]) is

  pub stays : (n : Node) (a : Answer) (why : Stop) → n.stopped ≡ Some why → answered c snap n a ≡ n
  unfolding answered
  stays n a why is = ap (λ (o : Option Stop). unless_stopped c snap n a o) is

  -- a node that has stopped appends nothing
  pub stopped-marks : (n : Node) (by : Bool) (why : Stop) (answers : List Answer) → n.stopped ≡ Some why → marks by (calls c snap n answers) ≡ []
  unfolding calls marks
  stopped-marks n by why [] stopped = refl
  stopped-marks n by why (a ∷ more) stopped =
      ap (λ (call : Call). mark by a call ++ marks (is_guards by a call) (calls c snap (answered c snap n a) more)) (rests n why stopped)
      ∙ ap (λ (ms : List Marked). ms ++ marks (is_guards by a Rests) (calls c snap (answered c snap n a) more)) (plain-none by Rests a tt)
      ∙ ap (λ (m : Node). marks (is_guards by a Rests) (calls c snap m more)) (stays n a why stopped)
      ∙ stopped-marks n (is_guards by a Rests) why more stopped
