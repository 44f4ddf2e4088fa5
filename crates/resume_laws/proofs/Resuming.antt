-- A node that begins by a snapshot goes on as the one that reads the whole journal.
use Rattle.std.proofs.Common.{◌≡◌, ℕ, ◌+◌, List, [], ◌∷◌, ◌++◌, refl, sym, ap, ◌∙◌, subst, Option, Some, None}
use Rattle.std.specs.Prelude.{option_map, IsTrue}
use Rattle.byte_defs.specs.Members.{has}
use Rattle.group_defs.specs.Views.{IsView}
use Rattle.group_defs.specs.Process.{Process}
use Rattle.journal_defs.specs.Entries.{Entry}
use Rattle.node_defs.specs.Lines.{Stop}
use Rattle.node_defs.specs.Casts.{Cast, from_start}
use Rattle.node_defs.specs.Nodes.{Node, Opening, Leaving, Task, Take, Append, Flush, Say, Ask, Get, Word, Post, Mark, Call, Appends, Rests, Answer, Snapper, call_of, call_of_opening, call_of_leaving, call_of_tasks, unless_stopped, answered, run, calls, reads, at_first, opens}
use Rattle.node_defs.specs.Lives.{staged, staged_behind, staged_by, FitsFrom, Found, leaves, leaves_by, IsOpened, AreHosted}
use Rattle.node_defs.specs.Snapshots.{Snapshot, snap_line, from_snapshot}
use Rattle.node_laws.proofs.Openings.{opens_sound}
use Rattle.node_laws.proofs.Fitting.{Keeps, run-keeps, start-numbered}
use Rattle.resume_laws.specs.Resuming.{GoesAlikeBy, IsResumed, IsSnapshotAfter, ResumesAsNode, ResumesAsNodeBy, SnapsAreAlike, after_these, begun, one_line_on}
use Rattle.image_laws.specs.Alike.{IsAlike}
use Rattle.resume_laws.proofs.Turning.{entry-alike}
use Rattle.resume_laws.proofs.Alike.{moved}
use Rattle.resume_laws.proofs.Answered.{IsBeside, BesideAlike, answered-beside}
use Rattle.resume_laws.proofs.Readings.{reads-into}
use Rattle.resume_laws.proofs.Refusing.{goes-on-fits}
use Rattle.resume_laws.proofs.Begun.{beside-alike, counts-before, begun-beside}

-- ---- one moment

module _ (c : Cast) (es : List Entry) (n : Node) (now : ℕ → Process) (kept : List Entry)
    (agree : (p : ℕ) → IsTrue (has c.hosted p) → IsAlike (n.now p) (now p)) (parts : n.kept ≡ es ++ kept) (hosted : AreHosted c n.tasks) where
  abbrev m : Node
  m = moved now kept n

  tasks-call : (ts : List Task) → AreHosted c ts → call_of_tasks c m ts ≡ call_of_tasks c n ts
  tasks-call [] h = refl
  tasks-call (Take p e ∷ ts) h = refl
  tasks-call (Append p e ∷ ts) h = ap (λ entry. Appends entry) (entry-alike c (n.now p) (now p) (agree p h.0) e)
  tasks-call (Flush ∷ ts) h = refl
  tasks-call (Say text ∷ ts) h = refl
  tasks-call (Ask p e notes above ∷ ts) h = refl
  tasks-call (Get p most count ∷ ts) h = refl
  tasks-call (Word p line ∷ ts) h = refl
  tasks-call (Post p q frame ∷ ts) h = refl
  tasks-call (Mark ∷ ts) h = refl

  leaving-call : (ls : List Leaving) → call_of_leaving c m ls ≡ call_of_leaving c n ls
  leaving-call [] = tasks-call n.tasks hosted
  leaving-call (l ∷ ls) = refl

  opening-call : (os : List Opening) → call_of_opening c m os ≡ call_of_opening c n os
  opening-call [] = leaving-call n.leaving
  opening-call (o ∷ os) = refl

  moved-call : call_of c m ≡ call_of c n
  unfolding call_of
  moved-call = by n.stopped
    where
      by : (o : Option Stop) → (elim (option_map one_line_on o) as (λ _. Call) [ Some why ↦ Rests | None ↦ call_of_opening c m n.opening ])
          ≡ (elim o as (λ _. Call) [ Some why ↦ Rests | None ↦ call_of_opening c n n.opening ])
      by None = opening-call n.opening
      by (Some why) = refl

  -- what a stop leaves
  staged-by : (ts : List Task) → AreHosted c ts → staged_by c n ts ≡ staged_by c m ts
  staged-by [] h = refl
  staged-by (Take p e ∷ ts) h = refl
  staged-by (Append p e ∷ ts) h = ap (λ entry. Some entry) (sym (entry-alike c (n.now p) (now p) (agree p h.0) e))
  staged-by (Flush ∷ ts) h = refl
  staged-by (Say text ∷ ts) h = refl
  staged-by (Ask p e notes above ∷ ts) h = refl
  staged-by (Get p most count ∷ ts) h = refl
  staged-by (Word p line ∷ ts) h = refl
  staged-by (Post p q frame ∷ ts) h = refl
  staged-by (Mark ∷ ts) h = refl

  moved-staged : staged c n ≡ staged c m
  unfolding staged
  moved-staged = by n.leaving
    where
      by : (ls : List Leaving) → staged_behind c n ls ≡ staged_behind c m ls
      by [] = staged-by n.tasks hosted
      by (l ∷ ls) = refl

  moved-leaves : (f : Found) → leaves c (after_these es f) n ≡ after_these es (leaves c f m)
  unfolding leaves
  moved-leaves f = by n.opening
    where
      by : (os : List Opening) → leaves_by c (after_these es f) n os ≡ after_these es (leaves_by c f m os)
      by [] = ap (λ ds. record { sure = ds; more = staged c n }) parts ∙ ap (λ o. record { sure = es ++ kept; more = o }) moved-staged
      by (o ∷ os) = refl

-- ---- a run

-- what holds of a node as long as it runs, so that its tasks are of hosted processes
pub record Lasts (c : Cast) (snap : Snapper) (H : Node → Type 0) : Type 0 where
  pub hosted : (n : Node) → H n → AreHosted c n.tasks
  pub goes_on : (n : Node) (a : Answer) → H n → H (answered c snap n a)

-- both, with the same answers
record RunsAlike (c : Cast) (es : List Entry) (snap snap' : Snapper) (H : Node → Type 0) (n m : Node) (answers : List Answer) : Type 0 where
  calls_are : calls c snap' m answers ≡ calls c snap n answers
  beside : IsBeside c es (run c snap n answers) (run c snap' m answers)
  still : H (run c snap n answers)

module _ (c : Cast) (es : List Entry) (snap snap' : Snapper) (alike : BesideAlike c es snap snap') (H : Node → Type 0)
    (lasts : Lasts c snap H) where
  call-same : (n m : Node) → IsBeside c es n m → H n → call_of c m ≡ call_of c n
  call-same n m b h = ap (call_of c) b.is ∙ moved-call c es n b.now b.kept b.agree b.parts (lasts.hosted n h)

  runs-alike : (n m : Node) (answers : List Answer) → H n → IsBeside c es n m → RunsAlike c es snap snap' H n m answers
  unfolding run calls
  runs-alike n m [] h b = record { calls_are = refl; beside = b; still = h }
  runs-alike n m (a ∷ more) h b =
      let rest = runs-alike (answered c snap n a) (answered c snap' m a) more (lasts.goes_on n a h)
      (answered-beside c es snap snap' n m a alike (lasts.hosted n h) b) in
      record {
        calls_are = ap (λ call. (call, a) ∷ calls c snap' (answered c snap' m a) more) (call-same n m b h)
            ∙ ap (λ cs. (call_of c n, a) ∷ cs) rest.calls_are;
        beside = rest.beside;
        still = rest.still;
      }

-- ---- what lasts

-- a node that has not stopped at its entries keeps its processes
abbrev Sound : Cast → Node → Type 0
Sound c n = Keeps c (from_start c).from (λ es. Unit {0}) n

sound-lasts : (c : Cast) (snap : Snapper) → Lasts c snap (Sound c)
unfolding run
sound-lasts c snap = record { hosted = λ n k. k.hosted; goes_on = one }
  where
    one : (n : Node) (a : Answer) → Sound c n → Sound c (answered c snap n a)
    one n a k = run-keeps c snap (from_start c).from (start-numbered c) (λ es. Unit {0}) (λ n s p e h u. tt) n (a ∷ []) k

-- one that has stopped, with nothing to do
record HasStopped (c : Cast) (n : Node) : Type 0 where
  why : Stop
  stopped : n.stopped ≡ Some why
  nothing : n.tasks ≡ []

stopped-lasts : (c : Cast) (snap : Snapper) → Lasts c snap (HasStopped c)
unfolding answered
stopped-lasts c snap = record { hosted = λ n h. subst (AreHosted c) (sym h.nothing) tt; goes_on = one }
  where
    one : (n : Node) (a : Answer) → HasStopped c n → HasStopped c (answered c snap n a)
    one n a h = subst (HasStopped c) (sym (ap (unless_stopped c snap n a) h.stopped)) h

-- ---- the law

beside-is : (c : Cast) (es : List Entry) (n m : Node) → IsBeside c es n m → IsResumed c es n m
beside-is c es n m b = subst (IsResumed c es n) (sym b.is) (record { processes = b.agree; kept = b.parts; rest = refl })

module _ (c : Cast) (es : List Entry) (snap snap' : Snapper) (alike : BesideAlike c es snap snap') where
  alike-by : (H : Node → Type 0) → Lasts c snap H → (n m : Node) (answers : List Answer) → H n → IsBeside c es n m
      → GoesAlikeBy c snap snap' es n m answers
  alike-by H lasts n m answers h b =
      let both = runs-alike c es snap snap' alike H lasts n m answers h b in
      let last = both.beside in
      record {
        calls_are = both.calls_are;
        is_resumed = beside-is c es (run c snap n answers) (run c snap' m answers) last;
        leaves_are = λ f. (
            moved-leaves c es (run c snap n answers) last.now last.kept last.agree last.parts
            (lasts.hosted (run c snap n answers) both.still) f
            ∙ ap (λ x. after_these es (leaves c f x)) (sym last.is)
            );
      }

resumes-beside : (c : Cast) (s : Snapshot) (snap snap' : Snapper) (lines : ℕ) (es fs : List Entry) (breaks : Option ℕ)
    (answers : List Answer) → BesideAlike c es snap snap' → IsView c.setting.genesis → FitsFrom c (from_start c).from es
    → IsSnapshotAfter c es s
    → GoesAlikeBy c snap snap' es (begun c (from_start c) lines (es ++ fs) breaks) (begun c (from_snapshot c s) (lines + 1) fs breaks) answers
resumes-beside c s snap snap' lines es fs breaks answers alike view fits is = by breaks
  where
    first : Node
    first = reads c (at_first (from_start c) lines) (es ++ fs)

    quiet : first.tasks ≡ []
    quiet = ap (λ (x : Node). x.tasks) (reads-into c (at_first (from_start c) lines) (es ++ fs))

    goes : (breaks : Option ℕ) (o : Option Stop) → (begun c (from_start c) lines (es ++ fs) breaks).stopped ≡ o
        → GoesAlikeBy c snap snap' es (begun c (from_start c) lines (es ++ fs) breaks) (begun c (from_snapshot c s) (lines + 1) fs breaks) answers
    goes None None runs =
        let o : IsOpened c (from_start c) (es ++ fs) (opens c (from_start c) lines (es ++ fs))
        = opens_sound c (from_start c) lines (es ++ fs) (goes-on-fits c (from_start c) lines (es ++ fs) runs) in
        alike-by c es snap snap' alike (Sound c) (sound-lasts c snap) _ _ answers
        (record { sound = o.sound; fits = tt; hosted = subst (AreHosted c) (sym o.tasks) tt })
        (begun-beside c s lines es view fits is fs None)
    goes None (Some why) stopped =
        alike-by c es snap snap' alike (HasStopped c) (stopped-lasts c snap) _ _ answers
        (record { why = why; stopped = stopped; nothing = quiet }) (begun-beside c s lines es view fits is fs None)
    goes (Some place) (Some why) stopped =
        alike-by c es snap snap' alike (HasStopped c) (stopped-lasts c snap) _ _ answers
        (record { why = why; stopped = stopped; nothing = quiet }) (begun-beside c s lines es view fits is fs (Some place))
    goes (Some place) None runs = absurd cc

    by : (breaks : Option ℕ)
        → GoesAlikeBy c snap snap' es (begun c (from_start c) lines (es ++ fs) breaks) (begun c (from_snapshot c s) (lines + 1) fs breaks) answers
    by breaks = goes breaks (begun c (from_start c) lines (es ++ fs) breaks).stopped refl

pub resumes_as_node : ResumesAsNode
resumes_as_node c s lines es fs breaks answers view fits is =
    resumes-beside c s (snap_line c (from_start c)) (snap_line c (from_snapshot c s)) lines es fs breaks answers
    (beside-alike c es (from_snapshot c s) (counts-before c s lines es view fits is)) view fits is

pub resumes_as_node_by : ResumesAsNodeBy
resumes_as_node_by c s snap snap' lines es fs breaks answers alike view fits is = resumes-beside c s snap snap' lines es fs breaks answers
    (λ n m b digest. alike n m (beside-is c es n m b) digest) view fits is

pub snaps_are_alike : SnapsAreAlike
snaps_are_alike c s es view fits is = λ n m r digest.
    beside-alike c es (from_snapshot c s) (counts-before c s 0 es view fits is) n m
    (record { now = m.now; kept = m.kept; agree = r.processes; parts = r.kept; is = r.rest }) digest
