-- A run keeps a node sound, answer by answer.
use Rattle.std.proofs.Common.{◌≡◌, ◌≢◌, ◌⊎◌, ℕ, List, [], ◌∷◌, ◌++◌, map, Bool, true, false, refl, sym, ap, ◌∙◌, subst, Option, Some, None, inl, inr}
use Rattle.std.specs.Prelude.{◌==◌, if◌then◌else◌, Contains}
use Rattle.std.proofs.lemmas.List.{append-nil, append_assoc}
use Rattle.std.proofs.lemmas.Bool.{eqb-true, eq-eqb}
use Rattle.pool_laws.proofs.Members.{Mem, mem-Contains, Contains-mem}
use Rattle.pool_laws.proofs.Places.{prefix-self, prefix-more, prefix-trans}
use Rattle.group_defs.specs.Process.{Setting, Process}
use Rattle.group_defs.specs.Events.{after}
use Rattle.group_defs.specs.Accounts.{IsPrefixOf}
use Rattle.journal_defs.specs.Entries.{Event, Entry}
use Rattle.node_defs.specs.Casts.{Cast, live, outcome_of, entry_for, kept_turn, entries_of, taken_up}
use Rattle.node_defs.specs.Lines.{Stop}
use Rattle.node_defs.specs.Nodes.{Node, Opening, Bind, Greet, Serve, Finish, Leaving, Task, Answer, Done, Failed, Unremembered, Came, Broken, Said, Named, Digest, Change, Snapper, leaving_of, new_entry, new_leaving, with_turn, changed, if_fits, counts, by_tasks, by_leaving, opened_one, by_opening, by_answer, unless_stopped, answered, run, after_read, after_task, after_leaving}
use Rattle.node_defs.specs.Lives.{IsOfEntry, IsSound, AreNumbered, KeptGrows, StaysSound}
use Rattle.node_laws.proofs.Entries.{entries-append, own-entry, other-entry, taken-snoc, taken-me, live-is-kept}

-- ---- what is kept grows

-- n goes on to m
abbrev Grows : Node → Node → Type 0
Grows n m = IsPrefixOf n.kept m.kept

fits-grows : (c : Cast) (n : Node) (ls : List Leaving) (ts : List Task) (x : Option Change) → Grows n (if_fits c n ls ts x)
fits-grows c n ls ts None = prefix-self n.kept
fits-grows c n ls ts (Some x) = (new_entry c n x.taken, refl)

counts-kept : (n : Node) (a : Answer) → (counts n a).kept ≡ n.kept
counts-kept n Done = refl
counts-kept n Failed = refl
counts-kept n Unremembered = refl
counts-kept n (Came bytes) = refl
counts-kept n Broken = refl
counts-kept n (Said text sends) = refl
counts-kept n (Named q) = refl
counts-kept n (Digest d) = refl

tasks-grow : (c : Cast) (snap : Snapper) (n : Node) (a : Answer) (ts : List Task) → Grows n (by_tasks c snap n a ts)
tasks-grow c snap n a [] = subst (λ es. IsPrefixOf n.kept es) (sym (counts-kept (if_fits c n [] [] (after_read c n a)) a))
    (fits-grows c n [] [] (after_read c n a))
tasks-grow c snap n a (t ∷ ts) = fits-grows c n [] ts (after_task c snap n t a)

leaving-grows : (c : Cast) (snap : Snapper) (n : Node) (a : Answer) (ls : List Leaving) → Grows n (by_leaving c snap n a ls)
leaving-grows c snap n a [] = tasks-grow c snap n a n.tasks
leaving-grows c snap n a (l ∷ ls) = fits-grows c n ls n.tasks (after_leaving n l a)

-- an opening step changes what is to be opened, or why the node stopped, and nothing else
pub record OnlyOpens (n m : Node) : Type 0 where
  pub now : m.now ≡ n.now
  pub kept : m.kept ≡ n.kept
  pub tasks : m.tasks ≡ n.tasks
  pub leaving : m.leaving ≡ n.leaving

pub opens-only : (n : Node) (os : List Opening) (o : Opening) (a : Answer) → OnlyOpens n (opened_one n os o a)
opens-only n os (Bind port) Done = record { now = refl; kept = refl; tasks = refl; leaving = refl }
opens-only n os (Bind port) Failed = record { now = refl; kept = refl; tasks = refl; leaving = refl }
opens-only n os (Bind port) Unremembered = record { now = refl; kept = refl; tasks = refl; leaving = refl }
opens-only n os (Bind port) (Came bytes) = record { now = refl; kept = refl; tasks = refl; leaving = refl }
opens-only n os (Bind port) Broken = record { now = refl; kept = refl; tasks = refl; leaving = refl }
opens-only n os (Bind port) (Said text sends) = record { now = refl; kept = refl; tasks = refl; leaving = refl }
opens-only n os (Bind port) (Named q) = record { now = refl; kept = refl; tasks = refl; leaving = refl }
opens-only n os (Bind port) (Digest d) = record { now = refl; kept = refl; tasks = refl; leaving = refl }
opens-only n os (Greet t) Done = record { now = refl; kept = refl; tasks = refl; leaving = refl }
opens-only n os (Greet t) Failed = record { now = refl; kept = refl; tasks = refl; leaving = refl }
opens-only n os (Greet t) Unremembered = record { now = refl; kept = refl; tasks = refl; leaving = refl }
opens-only n os (Greet t) (Came bytes) = record { now = refl; kept = refl; tasks = refl; leaving = refl }
opens-only n os (Greet t) Broken = record { now = refl; kept = refl; tasks = refl; leaving = refl }
opens-only n os (Greet t) (Said text sends) = record { now = refl; kept = refl; tasks = refl; leaving = refl }
opens-only n os (Greet t) (Named q) = record { now = refl; kept = refl; tasks = refl; leaving = refl }
opens-only n os (Greet t) (Digest d) = record { now = refl; kept = refl; tasks = refl; leaving = refl }
opens-only n os Serve Done = record { now = refl; kept = refl; tasks = refl; leaving = refl }
opens-only n os Serve Failed = record { now = refl; kept = refl; tasks = refl; leaving = refl }
opens-only n os Serve Unremembered = record { now = refl; kept = refl; tasks = refl; leaving = refl }
opens-only n os Serve (Came bytes) = record { now = refl; kept = refl; tasks = refl; leaving = refl }
opens-only n os Serve Broken = record { now = refl; kept = refl; tasks = refl; leaving = refl }
opens-only n os Serve (Said text sends) = record { now = refl; kept = refl; tasks = refl; leaving = refl }
opens-only n os Serve (Named q) = record { now = refl; kept = refl; tasks = refl; leaving = refl }
opens-only n os Serve (Digest d) = record { now = refl; kept = refl; tasks = refl; leaving = refl }
opens-only n os Finish Done = record { now = refl; kept = refl; tasks = refl; leaving = refl }
opens-only n os Finish Failed = record { now = refl; kept = refl; tasks = refl; leaving = refl }
opens-only n os Finish Unremembered = record { now = refl; kept = refl; tasks = refl; leaving = refl }
opens-only n os Finish (Came bytes) = record { now = refl; kept = refl; tasks = refl; leaving = refl }
opens-only n os Finish Broken = record { now = refl; kept = refl; tasks = refl; leaving = refl }
opens-only n os Finish (Said text sends) = record { now = refl; kept = refl; tasks = refl; leaving = refl }
opens-only n os Finish (Named q) = record { now = refl; kept = refl; tasks = refl; leaving = refl }
opens-only n os Finish (Digest d) = record { now = refl; kept = refl; tasks = refl; leaving = refl }

opening-grows : (c : Cast) (snap : Snapper) (n : Node) (a : Answer) (os : List Opening) → Grows n (by_opening c snap n a os)
opening-grows c snap n a [] = leaving-grows c snap n a n.leaving
opening-grows c snap n a (o ∷ os) = subst (λ es. IsPrefixOf n.kept es) (sym (opens-only n os o a).kept) (prefix-self n.kept)

answer-grows : (c : Cast) (snap : Snapper) (n : Node) (a : Answer) → Grows n (by_answer c snap n a)
answer-grows c snap n Done = opening-grows c snap n Done n.opening
answer-grows c snap n Failed = opening-grows c snap n Failed n.opening
answer-grows c snap n Unremembered = prefix-self n.kept
answer-grows c snap n (Came bytes) = opening-grows c snap n (Came bytes) n.opening
answer-grows c snap n Broken = opening-grows c snap n Broken n.opening
answer-grows c snap n (Said text sends) = opening-grows c snap n (Said text sends) n.opening
answer-grows c snap n (Named q) = opening-grows c snap n (Named q) n.opening
answer-grows c snap n (Digest d) = opening-grows c snap n (Digest d) n.opening

pub answered-grows : (c : Cast) (snap : Snapper) (n : Node) (a : Answer) → Grows n (answered c snap n a)
unfolding answered
answered-grows c snap n a = go n.stopped
  where
    go : (o : Option Stop) → Grows n (unless_stopped c snap n a o)
    go None = answer-grows c snap n a
    go (Some why) = prefix-self n.kept

pub kept_grows : KeptGrows
unfolding run
kept_grows c snap n [] = prefix-self n.kept
kept_grows c snap n (a ∷ more) = prefix-trans n.kept (answered c snap n a).kept (run c snap (answered c snap n a) more).kept
    (answered-grows c snap n a) (kept_grows c snap (answered c snap n a) more)

-- ---- soundness

module _ (c : Cast) (snap : Snapper) (from : ℕ → Process) (numbered : AreNumbered from) where
  -- the number of the process that a node has under this number
  pub bears : (n : Node) → IsSound c from n → (p : ℕ) → (n.now p).me ≡ p
  bears n s p = ap (λ (q : Process). q.me) (s.processes p) ∙ taken-me c.setting (from p) (entries_of p n.kept) ∙ numbered p

  -- what goes out of an entry does so where more entries are kept
  pub wider : (es fs : List Entry) (l : Leaving) → IsOfEntry c from es l → IsOfEntry c from (es ++ fs) l
  wider es fs l of = record {
    before = of.before;
    behind = of.behind ++ fs;
    process = of.process;
    event = of.event;
    is = ap (λ xs. xs ++ fs) of.is ∙ append_assoc of.before _ fs;
    goes_out = of.goes_out;
  }

  swap : (a b : ℕ) → (a == b) ≡ false → (b == a) ≡ false
  swap a b not = go (b == a) refl
    where
      go : (x : Bool) → (b == a) ≡ x → x ≡ false
      go true e = let is = eq-eqb a b (sym (eqb-true b a e)) in cc
      go false e = refl

  split : (xs ys : List Leaving) (l : Leaving) → Mem l (xs ++ ys) → Mem l xs ⊎ Mem l ys
  split [] ys l m = inr m
  split (x ∷ xs) ys l (inl e) = inl (inl e)
  split (x ∷ xs) ys l (inr m) = elim (split xs ys l m) [ inl there ↦ inl (inr there) | inr there ↦ inr there ]

  pub turn-processes : (n : Node) → IsSound c from n → (t : Option (ℕ × Event)) (q : ℕ)
      → with_turn c n t q ≡ taken_up c.setting (from q) (entries_of q (n.kept ++ new_entry c n t))
  turn-processes n s None q = s.processes q ∙ ap (λ es. taken_up c.setting (from q) (entries_of q es)) (sym (append-nil n.kept))
  turn-processes n s (Some t) q = go (q == t.0) refl
    where
      entry : Entry
      entry = entry_for c (n.now t.0) t.1

      go : (b : Bool) → (q == t.0) ≡ b → (if b then after c.setting (n.now q) (live c (n.now q) t.1) else n.now q)
          ≡ taken_up c.setting (from q) (entries_of q (n.kept ++ entry ∷ []))
      go true e =
          let same : q ≡ t.0 = eqb-true q t.0 e in
          let own : entry.process ≡ q = bears n s t.0 ∙ sym same in
          let those : entries_of q (n.kept ++ entry ∷ [])
          ≡ entries_of q n.kept ++ entry ∷ [] = entries-append q n.kept (entry ∷ []) ∙ ap (λ es. entries_of q n.kept ++ es) (own-entry q entry own) in
          let its : after c.setting (n.now q) (live c (n.now q) t.1)
          ≡ taken_up c.setting (from q) (entries_of q n.kept ++ entry_for c (n.now q) t.1 ∷ []) =
          sym (live-is-kept c (n.now q) t.1)
          ∙ ap (λ (x : Process). after c.setting x (kept_turn x (entry_for c (n.now q) t.1))) (s.processes q)
          ∙ sym (taken-snoc c.setting (from q) (entries_of q n.kept) (entry_for c (n.now q) t.1)) in
          its ∙ ap (λ p. taken_up c.setting (from q) (entries_of q n.kept ++ entry_for c (n.now p) t.1 ∷ [])) same
          ∙ ap (taken_up c.setting (from q)) (sym those)
      go false e =
          let other : (entry.process == q) ≡ false = subst (λ m. (m == q) ≡ false) (sym (bears n s t.0)) (swap q t.0 e) in
          let those : entries_of q (n.kept ++ entry ∷ [])
          ≡ entries_of q n.kept = entries-append q n.kept (entry ∷ []) ∙ ap (λ es. entries_of q n.kept ++ es) (other-entry q entry other)
          ∙ append-nil (entries_of q n.kept) in
          s.processes q ∙ ap (taken_up c.setting (from q)) (sym those)

  pub changed-sound : (n : Node) (ls : List Leaving) (ts : List Task) (x : Change) → IsSound c from n
      → ((l : Leaving) → Mem l ls → Mem l n.leaving) → n.opening ≡ [] → IsSound c from (changed c n ls ts x)
  changed-sound n ls ts x s less opened = record {
    processes = turn-processes n s x.taken;
    out = λ l there. leaves l x.taken (Contains-mem _ l there);
    finished = λ some. opened;
  }
    where
      leaves : (l : Leaving) (t : Option (ℕ × Event)) → Mem l (ls ++ new_leaving c n t) → IsOfEntry c from (n.kept ++ new_entry c n t) l
      leaves l None m = wider n.kept [] l (s.out l (mem-Contains _ l (less l (subst (Mem l) (append-nil ls) m))))
      leaves l (Some t) m = by (split ls (leaving_of t.0 (outcome_of c (n.now t.0) t.1)) l m)
        where
          is-so : n.now t.0 ≡ taken_up c.setting (from t.0) (entries_of t.0 n.kept)
          is-so = s.processes t.0

          by : Mem l ls ⊎ Mem l (leaving_of t.0 (outcome_of c (n.now t.0) t.1)) → IsOfEntry c from (n.kept ++ entry_for c (n.now t.0) t.1 ∷ []) l
          by (inl old) = wider n.kept (entry_for c (n.now t.0) t.1 ∷ []) l (s.out l (mem-Contains _ l (less l old)))
          by (inr new) = record {
            before = n.kept;
            behind = [];
            process = t.0;
            event = t.1;
            is = ap (λ (p : Process). n.kept ++ entry_for c p t.1 ∷ []) is-so;
            goes_out = subst (λ (p : Process). Contains (leaving_of t.0 (outcome_of c p t.1)) l) is-so (mem-Contains _ l new);
          }

  fits-sound : (n : Node) (ls : List Leaving) (ts : List Task) (x : Option Change) → IsSound c from n
      → ((l : Leaving) → Mem l ls → Mem l n.leaving) → n.opening ≡ [] → IsSound c from (if_fits c n ls ts x)
  fits-sound n ls ts None s less opened = s
  fits-sound n ls ts (Some x) s less opened = changed-sound n ls ts x s less opened

  -- a node that has the same processes, entries and what goes out
  pub same-sound : (n m : Node) → m.now ≡ n.now → m.kept ≡ n.kept → m.leaving ≡ n.leaving → (m.leaving ≢ [] → m.opening ≡ [])
      → IsSound c from n → IsSound c from m
  same-sound n m now kept leaving finished s = record {
    processes = λ p. ap (λ (f : ℕ → Process). f p) now ∙ s.processes p
        ∙ ap (λ es. taken_up c.setting (from p) (entries_of p es)) (sym kept);
    out = λ l there. subst (λ es. IsOfEntry c from es l) (sym kept) (s.out l (subst (λ ls. Contains ls l) leaving there));
    finished = finished;
  }

  counts-sound : (n : Node) (a : Answer) → IsSound c from n → IsSound c from (counts n a)
  counts-sound n Done s = s
  counts-sound n Failed s = s
  counts-sound n Unremembered s = s
  counts-sound n (Came bytes) s = same-sound n (counts n (Came bytes)) refl refl refl s.finished s
  counts-sound n Broken s = s
  counts-sound n (Said text sends) s = s
  counts-sound n (Named q) s = s
  counts-sound n (Digest d) s = s

  none-less : (n : Node) (l : Leaving) → Mem l [] → Mem l n.leaving
  none-less n l m = absurd m

  tasks-sound : (n : Node) (a : Answer) (ts : List Task) → IsSound c from n → n.opening ≡ [] → IsSound c from (by_tasks c snap n a ts)
  tasks-sound n a [] s opened = counts-sound (if_fits c n [] [] (after_read c n a)) a
      (fits-sound n [] [] (after_read c n a) s (none-less n) opened)
  tasks-sound n a (t ∷ ts) s opened = fits-sound n [] ts (after_task c snap n t a) s (none-less n) opened

  leaving-sound : (n : Node) (a : Answer) (ls : List Leaving) → n.leaving ≡ ls → IsSound c from n → n.opening ≡ []
      → IsSound c from (by_leaving c snap n a ls)
  leaving-sound n a [] e s opened = tasks-sound n a n.tasks s opened
  leaving-sound n a (l ∷ ls) e s opened = fits-sound n ls n.tasks (after_leaving n l a) s
      (λ m there. subst (Mem m) (sym e) (inr there)) opened

  opening-sound : (n : Node) (a : Answer) (os : List Opening) → n.opening ≡ os → IsSound c from n → IsSound c from (by_opening c snap n a os)
  opening-sound n a [] e s = leaving-sound n a n.leaving refl s e
  opening-sound n a (o ∷ os) e s =
      let only = opens-only n os o a in
      same-sound n (opened_one n os o a) only.now only.kept only.leaving
      (λ some. absurd (not-none os o (sym e ∙ s.finished (λ none. some (only.leaving ∙ none))))) s
    where
      not-none : (os : List Opening) (o : Opening) → o ∷ os ≡ [] → ⊥
      not-none os o is = cc

  answer-sound : (n : Node) (a : Answer) → IsSound c from n → IsSound c from (by_answer c snap n a)
  answer-sound n Done s = opening-sound n Done n.opening refl s
  answer-sound n Failed s = opening-sound n Failed n.opening refl s
  answer-sound n Unremembered s = same-sound n (by_answer c snap n Unremembered) refl refl refl s.finished s
  answer-sound n (Came bytes) s = opening-sound n (Came bytes) n.opening refl s
  answer-sound n Broken s = opening-sound n Broken n.opening refl s
  answer-sound n (Said text sends) s = opening-sound n (Said text sends) n.opening refl s
  answer-sound n (Named q) s = opening-sound n (Named q) n.opening refl s
  answer-sound n (Digest d) s = opening-sound n (Digest d) n.opening refl s

  pub answered-sound : (n : Node) (a : Answer) → IsSound c from n → IsSound c from (answered c snap n a)
  unfolding answered
  answered-sound n a s = go n.stopped
    where
      go : (o : Option Stop) → IsSound c from (unless_stopped c snap n a o)
      go None = answer-sound n a s
      go (Some why) = s

  pub run-sound : (n : Node) (answers : List Answer) → IsSound c from n → IsSound c from (run c snap n answers)
  unfolding run
  run-sound n [] s = s
  run-sound n (a ∷ more) s = run-sound (answered c snap n a) more (answered-sound n a s)

pub stays_sound : StaysSound
stays_sound c snap from n answers numbered s = run-sound c snap from numbered n answers s
