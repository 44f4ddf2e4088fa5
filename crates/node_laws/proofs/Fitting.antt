-- What a stop leaves fits: it may have been written by the processes, so it is opened again.
use Rattle.std.proofs.Common.{arith, ◌≡◌, ◌≢◌, ℕ, suc, zero, ◌+◌, ◌-◌, ◌<◌, ◌≤◌, List, [], ◌∷◌, ◌++◌, map, length, Bool, true, false, refl, sym, ap, ◌∙◌, subst, Option, Some, None, Result, Ok, Err, inl, inr}
use Rattle.std.specs.Prelude.{codes, option_map, ◌==◌, ◌&&◌, nat_le, if◌then◌else◌, IsTrue}
use Rattle.std.specs.Option.{option_to_list}
use Rattle.std.specs.List.{list_all}
use Rattle.std.proofs.lemmas.List.{append-nil, append_assoc, length-map}
use Rattle.std.proofs.lemmas.Bool.{eq-eqb, le-leb}
use Rattle.pool_laws.proofs.Members.{Mem, each-list_all}
use Rattle.pool_laws.proofs.Places.{prefix-self, prefix-trans}
use Rattle.byte_defs.specs.Members.{has}
use Rattle.byte_defs.specs.Choices.{and_then}
use Rattle.byte_defs.specs.Equality.{same_bytes}
use Rattle.text_defs.specs.Words.{words_of, process_of}
use Rattle.link_defs.specs.declared.LinkFault.{LinkFault}
use Rattle.message_defs.specs.Statements.{Statement, Claim}
use Rattle.group_defs.specs.Hearing.{is_valid}
use Rattle.group_defs.specs.Process.{Setting, Process}
use Rattle.group_defs.specs.Events.{Outcome, Note, EventFault, outcome}
use Rattle.group_defs.specs.Accounts.{IsPrefixOf}
use Rattle.journal_defs.specs.Entries.{Event, Submit, Frame, Suspect, Join, Renew, Tick, Entry, entry_bytes}
use Rattle.safety_laws.proofs.Journalled.{journal_gives_the_turn}
use Rattle.node_defs.specs.Scripts.{Line, Of, Snap, Said, Hand, Receive, Other, line_said, line_of_words, line_if_hosted, said_or_other, most_lines}
use Rattle.node_defs.specs.Lines.{Stop, Full, BadLine}
use Rattle.node_defs.specs.Casts.{Cast, from_start, live, outcome_of, entry_for, kept_turn, entries_of, taken_up, may_have_written}
use Rattle.node_defs.specs.Nodes.{Node, Opening, Leaving, Sends, Notes, Task, Take, Append, Flush, Say, Ask, Get, Word, Post, Mark, Answer, Done, Failed, Unremembered, Came, Broken, Named, Digest, Change, Snapper, goes, ends, done_or, is_full, after_step, more_gets, after_came, asks, post_tasks, after_get, after_task, after_leaving, tasks_of_line, after_line, after_read, new_entry, changed, if_fits, counts, by_tasks, by_leaving, opened_one, by_opening, by_answer, unless_stopped, answered, run}
use Rattle.node_defs.specs.Nodes as nodes
use Rattle.node_defs.specs.Lives.{staged, staged_behind, staged_by, Found, Run, with_or_without, leaves_by, leaves, opened_in, last_of, lives, FitsAt, FitsBehind, FitsFrom, IsHosted, AreHosted, SignsValidly, AreMade, IsSound, AreNumbered, IsOpened, LeavesFit, Lives, LivesOn}
use Rattle.node_laws.proofs.Entries.{taken-me}
use Rattle.node_laws.proofs.Soundness.{kept_grows, answered-sound, bears, opens-only, OnlyOpens}
use Rattle.node_laws.proofs.Openings.{opens_sound}
use Rattle.node_laws.proofs.Made.{turn-makes}

-- ---- an own entry

all-four : (a b c d : Bool) → a ≡ true → b ≡ true → c ≡ true → d ≡ true → (a && b && c && d) ≡ true
all-four a b c d ea eb ec ed =
    subst (λ x. (x && b && c && d) ≡ true) (sym ea) (subst (λ x. (true && x && c && d) ≡ true) (sym eb)
    (subst (λ x. (true && true && x && d) ≡ true) (sym ec) (subst (λ x. (true && true && true && x) ≡ true) (sym ed) refl)))

same-spent : (b : Bool) → (if b then b else (if b then false else true)) ≡ true
same-spent true = refl
same-spent false = refl

le-true : (m n : ℕ) → m ≤ n → nat_le m n ≡ true
le-true m n le = le-leb m n le

module _ (c : Cast) (valid : SignsValidly c) where
  made-valid : (me : ℕ) → IsTrue (has c.hosted me) → (k : ℕ) (cs : List Claim) → length cs ≤ c.total me - k
      → AreMade c.setting (c.signer me) me k cs → (d : Claim) → Mem d cs → is_valid c.setting d ≡ true
  made-valid me hosted k (x ∷ cs) few made d (inl e) =
      let left : k < c.total me = omega (arith, few) in
      subst (λ d. is_valid c.setting d ≡ true) (sym made.0 ∙ e) (valid me k x.statement hosted left)
  made-valid me hosted k (x ∷ cs) few made d (inr m) =
      let rest : length cs ≤ c.total me - suc k = omega (arith, few) in made-valid me hosted (suc k) cs rest made.1 d m
  made-valid me hosted k [] few made d m = absurd m

  pub own-fits : (x : Process) (e : Event) → IsTrue (has c.hosted x.me) → may_have_written c x (entry_for c x e) ≡ true
  unfolding may_have_written
  own-fits x e hosted =
      let again : outcome c.setting x (kept_turn x (entry_for c x e)) ≡ o = (journal_gives_the_turn c.setting x (live c x e)).1 in
      ap by again ∙ all-four _ _ _ _ (eq-eqb (length o.signed) (length (entry_for c x e).signatures) (sym many)) (same-spent o.spent)
      (each-list_all (is_valid c.setting) o.signed (made-valid x.me hosted (length x.signed) o.signed (turn-makes c.setting x (live c x e)).few
      (turn-makes c.setting x (live c x e)).made))
      (le-true _ _ (subst (λ n. n ≤ c.total x.me - length x.signed) (sym many) (turn-makes c.setting x (live c x e)).few))
    where
      o : Outcome
      o = outcome_of c x e

      many : length (entry_for c x e).signatures ≡ length o.signed
      many = length-map o.signed (λ (d : Claim). d.signature)

      by : Outcome → Bool
      by o = (length o.signed == length (entry_for c x e).signatures)
          && (if o.spent then (entry_for c x e).spent else (if (entry_for c x e).spent then false else true))
          && list_all (is_valid c.setting) o.signed
          && nat_le (length (entry_for c x e).signatures) (c.total x.me - length x.signed)

-- ---- one more entry

pub fits-snoc : (c : Cast) (from : ℕ → Process) (before es : List Entry) (e : Entry) → FitsBehind c from before es → FitsAt c from (before ++ es) e
    → FitsBehind c from before (es ++ e ∷ [])
fits-snoc c from before [] e f at = (subst (λ b. FitsAt c from b e) (append-nil before) at, tt)
fits-snoc c from before (x ∷ es) e f at = (
  f.0,
  fits-snoc c from (before ++ x ∷ []) es e f.1 (subst (λ b. FitsAt c from b e) (sym (append_assoc before (x ∷ []) es)) at),
)

-- ---- whose tasks they are

hosted-append : (c : Cast) (ts us : List Task) → AreHosted c ts → AreHosted c us → AreHosted c (ts ++ us)
hosted-append c [] us a b = b
hosted-append c (t ∷ ts) us a b = (a.0, hosted-append c ts us a.1 b)

-- of a turn that is taken
abbrev TakenHosted : Cast → Option (ℕ × Event) → Type 0
TakenHosted c None = Unit {0}
TakenHosted c (Some t) = IsTrue (has c.hosted t.0)

record IsGood (c : Cast) (x : Change) : Type 0 where
  before : AreHosted c x.before
  taken : TakenHosted c x.taken

abbrev AreGood : Cast → Option Change → Type 0
AreGood c None = Unit {0}
AreGood c (Some x) = IsGood c x

good : (c : Cast) (n : Node) (ts : List Task) → AreHosted c ts → IsGood c (goes n ts)
good c n ts h = record { before = h; taken = tt }

stop-good : (c : Cast) (n : Node) (why : Stop) → IsGood c (ends n [] why)
stop-good c n why = record { before = tt; taken = tt }

done-good : (c : Cast) (n : Node) (why : Stop) (a : Answer) → AreGood c (done_or n why [] a)
done-good c n why Done = good c n [] tt
done-good c n why Failed = stop-good c n why
done-good c n why Unremembered = tt
done-good c n why (Came bytes) = tt
done-good c n why Broken = tt
done-good c n why (nodes.Said text sends) = tt
done-good c n why (Named q) = tt
done-good c n why (Digest d) = tt

step-good : (c : Cast) (n : Node) (p : ℕ) (e : Event) (o : Option EventFault) → IsTrue (has c.hosted p) → IsGood c (after_step c n p e o)
step-good c n p e (Some fault) h = good c n _ (tt, tt)
step-good c n p e None h = go (is_full n.gate (entry_for c (n.now p) e))
  where
    go : (b : Bool) → IsGood c (if b then ends n [] (Full (n.gate + 1) (length (entry_bytes (entry_for c (n.now p) e)))) else goes n (Append p e ∷ []))
    go true = record { before = tt; taken = tt }
    go false = good c n _ (h, tt)

gets-good : (c : Cast) (p most count : ℕ) → IsTrue (has c.hosted p) → AreHosted c (more_gets p most count)
gets-good c p zero count h = (tt, tt)
gets-good c p (suc most) count h = (h, tt)

came-good : (c : Cast) (p : ℕ) (r : Result (ℕ × List ℕ) LinkFault) → IsTrue (has c.hosted p) → AreHosted c (after_came p r)
came-good c p (Ok came) h = (h, tt)
came-good c p (Err fault) h = (tt, tt)

get-good : (c : Cast) (n : Node) (p most count : ℕ) (a : Answer) → IsTrue (has c.hosted p) → AreGood c (after_get c n p most count a)
get-good c n p zero count a h = tt
get-good c n p (suc most) count Done h = good c n _ (tt, tt)
get-good c n p (suc most) count Failed h = good c n _ (tt, tt)
get-good c n p (suc most) count (Came bytes) h = good c n _
    (hosted-append c _ _ (came-good c p (c.unseal p bytes) h) (gets-good c p most (count + 1) h))
get-good c n p (suc most) count Unremembered h = tt
get-good c n p (suc most) count Broken h = tt
get-good c n p (suc most) count (nodes.Said text sends) h = tt
get-good c n p (suc most) count (Named q) h = tt
get-good c n p (suc most) count (Digest d) h = tt

asks-good : (c : Cast) (p : ℕ) (e : Event) (notes : List Note) → IsTrue (has c.hosted p) → AreHosted c (asks p e notes)
asks-good c p (Frame from bytes) notes h = (h, tt)
asks-good c p (Submit payload) notes h = tt
asks-good c p (Suspect q) notes h = tt
asks-good c p (Join q) notes h = tt
asks-good c p Renew notes h = tt
asks-good c p Tick notes h = tt

posts-good : (c : Cast) (p : ℕ) (sends : List (ℕ × List ℕ)) → IsTrue (has c.hosted p) → AreHosted c (post_tasks p sends)
posts-good c p [] h = tt
posts-good c p (x ∷ sends) h = (h, posts-good c p sends h)

task-good : (c : Cast) (snap : Snapper) (n : Node) (t : Task) (a : Answer) → IsHosted c t → AreGood c (after_task c snap n t a)
unfolding after_task
task-good c snap n (Take p e) Done h = step-good c n p e (outcome_of c (n.now p) e).verdict h
task-good c snap n (Take p e) Failed h = tt
task-good c snap n (Take p e) Unremembered h = tt
task-good c snap n (Take p e) (Came bytes) h = tt
task-good c snap n (Take p e) Broken h = tt
task-good c snap n (Take p e) (nodes.Said text sends) h = tt
task-good c snap n (Take p e) (Named q) h = tt
task-good c snap n (Take p e) (Digest d) h = tt
task-good c snap n (Append p e) Done h = record { before = (tt, asks-good c p e (outcome_of c (n.now p) e).notes h); taken = h }
task-good c snap n (Append p e) Failed h = record { before = (h, tt); taken = tt }
task-good c snap n (Append p e) Unremembered h = tt
task-good c snap n (Append p e) (Came bytes) h = tt
task-good c snap n (Append p e) Broken h = tt
task-good c snap n (Append p e) (nodes.Said text sends) h = tt
task-good c snap n (Append p e) (Named q) h = tt
task-good c snap n (Append p e) (Digest d) h = tt
task-good c snap n Flush Done h = record { before = tt; taken = tt }
task-good c snap n Flush Failed h = stop-good c n _
task-good c snap n Flush Unremembered h = tt
task-good c snap n Flush (Came bytes) h = tt
task-good c snap n Flush Broken h = tt
task-good c snap n Flush (nodes.Said text sends) h = tt
task-good c snap n Flush (Named q) h = tt
task-good c snap n Flush (Digest d) h = tt
task-good c snap n (Say text) a h = done-good c n _ a
task-good c snap n (Ask p e notes above) Done h = good c n [] tt
task-good c snap n (Ask p e notes above) (Named q) h = good c n _ (tt, (h, (h, tt)))
task-good c snap n (Ask p e notes above) Failed h = tt
task-good c snap n (Ask p e notes above) Unremembered h = tt
task-good c snap n (Ask p e notes above) (Came bytes) h = tt
task-good c snap n (Ask p e notes above) Broken h = tt
task-good c snap n (Ask p e notes above) (nodes.Said text sends) h = tt
task-good c snap n (Ask p e notes above) (Digest d) h = tt
task-good c snap n (Get p most count) a h = get-good c n p most count a h
task-good c snap n (Word p line) (nodes.Said text sends) h = good c n _ (tt, hosted-append c _ _ (posts-good c p sends h) (tt, tt))
task-good c snap n (Word p line) Done h = stop-good c n _
task-good c snap n (Word p line) Failed h = tt
task-good c snap n (Word p line) Unremembered h = tt
task-good c snap n (Word p line) (Came bytes) h = tt
task-good c snap n (Word p line) Broken h = tt
task-good c snap n (Word p line) (Named q) h = tt
task-good c snap n (Word p line) (Digest d) h = tt
task-good c snap n (Post p q frame) Done h = good c n [] tt
task-good c snap n (Post p q frame) Failed h = record { before = tt; taken = tt }
task-good c snap n (Post p q frame) Unremembered h = tt
task-good c snap n (Post p q frame) (Came bytes) h = tt
task-good c snap n (Post p q frame) Broken h = tt
task-good c snap n (Post p q frame) (nodes.Said text sends) h = tt
task-good c snap n (Post p q frame) (Named k) h = tt
task-good c snap n (Post p q frame) (Digest d) h = tt
task-good c snap n Mark (Digest d) h = good c n _ (tt, tt)
task-good c snap n Mark Failed h = stop-good c n _
task-good c snap n Mark Done h = tt
task-good c snap n Mark Unremembered h = tt
task-good c snap n Mark (Came bytes) h = tt
task-good c snap n Mark Broken h = tt
task-good c snap n Mark (nodes.Said text sends) h = tt
task-good c snap n Mark (Named q) h = tt

leaving-good : (c : Cast) (n : Node) (l : Leaving) (a : Answer) → AreGood c (after_leaving n l a)
unfolding after_leaving
leaving-good c n (Sends p q frame) Done = good c n [] tt
leaving-good c n (Sends p q frame) Failed = record { before = tt; taken = tt }
leaving-good c n (Sends p q frame) Unremembered = tt
leaving-good c n (Sends p q frame) (Came bytes) = tt
leaving-good c n (Sends p q frame) Broken = tt
leaving-good c n (Sends p q frame) (nodes.Said text sends) = tt
leaving-good c n (Sends p q frame) (Named k) = tt
leaving-good c n (Sends p q frame) (Digest d) = tt
leaving-good c n (Notes p note) (nodes.Said text sends) = record { before = tt; taken = tt }
leaving-good c n (Notes p note) Done = tt
leaving-good c n (Notes p note) Failed = tt
leaving-good c n (Notes p note) Unremembered = tt
leaving-good c n (Notes p note) (Came bytes) = tt
leaving-good c n (Notes p note) Broken = tt
leaving-good c n (Notes p note) (Named q) = tt
leaving-good c n (Notes p note) (Digest d) = tt

-- ---- lines

abbrev LineHosted : Cast → Option Line → Type 0
LineHosted c None = Unit {0}
LineHosted c (Some Snap) = Unit {0}
LineHosted c (Some (Of p said)) = IsTrue (has c.hosted p)

line-hosted : (c : Cast) (line : List ℕ) → LineHosted c (line_said c.hosted line)
unfolding line_said
line-hosted c line = go (same_bytes line (codes "snap"))
  where
    said : (p : ℕ) (e : has c.hosted p ≡ true) (o : Option Said) → LineHosted c (option_map (Of p) o)
    said p e None = tt
    said p e (Some s) = e

    hosted : (words : List (List ℕ)) (p : ℕ) (b : Bool) → has c.hosted p ≡ b
        → LineHosted c (if b then option_map (Of p) (said_or_other line words) else None)
    hosted words p true e = said p e (said_or_other line words)
    hosted words p false e = tt

    named : (words : List (List ℕ)) (o : Option ℕ) → LineHosted c (and_then o (line_if_hosted c.hosted line words))
    named words None = tt
    named words (Some p) = hosted words p (has c.hosted p) refl

    by : (words : List (List ℕ)) → LineHosted c (line_of_words c.hosted line words)
    by [] = tt
    by (first ∷ words) = named words (process_of first)

    go : (b : Bool) → LineHosted c (if b then Some Snap else line_of_words c.hosted line (words_of line))
    go true = tt
    go false = by (words_of line)

read-good : (c : Cast) (n : Node) (a : Answer) → AreGood c (after_read c n a)
unfolding after_read
read-good c n Done = stop-good c n _
read-good c n Failed = stop-good c n _
read-good c n Broken = stop-good c n _
read-good c n (Came line) = most (n.script == most_lines)
  where
    said : (o : Option Line) → LineHosted c o → IsGood c (after_line n line o)
    said None h = stop-good c n _
    said (Some Snap) h = good c n _ (tt, tt)
    said (Some (Of p (Hand e))) h = good c n _ (h, tt)
    said (Some (Of p (Receive most))) h = good c n _ (h, tt)
    said (Some (Of p Other)) h = good c n _ (h, tt)

    most : (b : Bool) → IsGood c (if b then ends n [] (BadLine (n.lines + 1)) else after_line n line (line_said c.hosted line))
    most true = stop-good c n _
    most false = said (line_said c.hosted line) (line-hosted c line)
read-good c n Unremembered = tt
read-good c n (nodes.Said text sends) = tt
read-good c n (Named q) = tt
read-good c n (Digest d) = tt

-- ---- what is kept

-- The node is sound, its entries have P, and its tasks are of hosted processes.
pub record Keeps (c : Cast) (from : ℕ → Process) (P : List Entry → Type 0) (n : Node) : Type 0 where
  pub sound : IsSound c from n
  pub fits : P n.kept
  pub hosted : AreHosted c n.tasks

module _ (c : Cast) (snap : Snapper) (from : ℕ → Process) (numbered : AreNumbered from) (valid : SignsValidly c) where
  entry-fits : (n : Node) → IsSound c from n → (p : ℕ) (e : Event) → IsTrue (has c.hosted p)
      → FitsAt c from n.kept (entry_for c (n.now p) e)
  entry-fits n s p e hosted =
      let me : (n.now p).me ≡ p = bears c snap from numbered n s p in
      subst (λ m. IsTrue (has c.hosted m) × IsTrue (may_have_written c (taken_up c.setting (from m) (entries_of m n.kept))
      (entry_for c (n.now p) e))) (sym me) (
        hosted,
        subst (λ (x : Process). IsTrue (may_have_written c x (entry_for c (n.now p) e))) (s.processes p)
            (own-fits c valid (n.now p) e (subst (λ m. IsTrue (has c.hosted m)) (sym me) hosted)),
      )

  fits-more : (n : Node) → IsSound c from n → (p : ℕ) (e : Event) → IsTrue (has c.hosted p) → FitsFrom c from n.kept
      → FitsFrom c from (n.kept ++ entry_for c (n.now p) e ∷ [])
  fits-more n s p e hosted fits = fits-snoc c from [] n.kept (entry_for c (n.now p) e) fits (entry-fits n s p e hosted)

-- what each entry that a node appends keeps, its runs keep
module _ (c : Cast) (snap : Snapper) (from : ℕ → Process) (numbered : AreNumbered from) (P : List Entry → Type 0)
    (grow : (n : Node) → IsSound c from n → (p : ℕ) (e : Event) → IsTrue (has c.hosted p) → P n.kept
    → P (n.kept ++ entry_for c (n.now p) e ∷ [])) where
  -- what is kept fits, and the tasks are of hosted processes
  abbrev Kept : Node → Type 0
  Kept m = P m.kept × AreHosted c m.tasks

  fits-kept : (n : Node) (ls : List Leaving) (ts : List Task) (x : Option Change) → AreGood c x → AreHosted c ts → Keeps c from P n
      → Kept (if_fits c n ls ts x)
  fits-kept n ls ts None good hosted k = (k.fits, k.hosted)
  fits-kept n ls ts (Some x) good hosted k = (more x.taken good.taken, hosted-append c x.before ts good.before hosted)
    where
      more : (t : Option (ℕ × Event)) → TakenHosted c t → P (n.kept ++ new_entry c n t)
      more None h = subst P (sym (append-nil n.kept)) k.fits
      more (Some t) h = grow n k.sound t.0 t.1 h k.fits

  counts-kept : (m : Node) (a : Answer) → Kept m → Kept (counts m a)
  counts-kept m Done k = k
  counts-kept m Failed k = k
  counts-kept m Unremembered k = k
  counts-kept m (Came bytes) k = k
  counts-kept m Broken k = k
  counts-kept m (nodes.Said text sends) k = k
  counts-kept m (Named q) k = k
  counts-kept m (Digest d) k = k

  tasks-kept : (n : Node) (a : Answer) (ts : List Task) → n.tasks ≡ ts → Keeps c from P n → Kept (by_tasks c snap n a ts)
  tasks-kept n a [] e k = counts-kept (if_fits c n [] [] (after_read c n a)) a (fits-kept n [] [] (after_read c n a) (read-good c n a) tt k)
  tasks-kept n a (t ∷ ts) e k =
      let h = subst (AreHosted c) e k.hosted in fits-kept n [] ts (after_task c snap n t a) (task-good c snap n t a h.0) h.1 k

  leaving-kept : (n : Node) (a : Answer) (ls : List Leaving) → Keeps c from P n → Kept (by_leaving c snap n a ls)
  leaving-kept n a [] k = tasks-kept n a n.tasks refl k
  leaving-kept n a (l ∷ ls) k = fits-kept n ls n.tasks (after_leaving n l a) (leaving-good c n l a) k.hosted k

  opening-kept : (n : Node) (a : Answer) (os : List Opening) → Keeps c from P n → Kept (by_opening c snap n a os)
  opening-kept n a [] k = leaving-kept n a n.leaving k
  opening-kept n a (o ∷ os) k =
      let only = opens-only n os o a in
      (subst P (sym only.kept) k.fits, subst (AreHosted c) (sym only.tasks) k.hosted)

  answer-kept : (n : Node) (a : Answer) → Keeps c from P n → Kept (by_answer c snap n a)
  answer-kept n Done k = opening-kept n Done n.opening k
  answer-kept n Failed k = opening-kept n Failed n.opening k
  answer-kept n Unremembered k = (k.fits, k.hosted)
  answer-kept n (Came bytes) k = opening-kept n (Came bytes) n.opening k
  answer-kept n Broken k = opening-kept n Broken n.opening k
  answer-kept n (nodes.Said text sends) k = opening-kept n (nodes.Said text sends) n.opening k
  answer-kept n (Named q) k = opening-kept n (Named q) n.opening k
  answer-kept n (Digest d) k = opening-kept n (Digest d) n.opening k

  answered-kept : (n : Node) (a : Answer) → Keeps c from P n → Kept (answered c snap n a)
  unfolding answered
  answered-kept n a k = go n.stopped
    where
      go : (o : Option Stop) → Kept (unless_stopped c snap n a o)
      go None = answer-kept n a k
      go (Some why) = (k.fits, k.hosted)

  answered-keeps : (n : Node) (a : Answer) → Keeps c from P n → Keeps c from P (answered c snap n a)
  answered-keeps n a k =
      let kept = answered-kept n a k in
      record { sound = answered-sound c snap from numbered n a k.sound; fits = kept.0; hosted = kept.1 }

  pub run-keeps : (n : Node) (answers : List Answer) → Keeps c from P n → Keeps c from P (run c snap n answers)
  unfolding run
  run-keeps n [] k = k
  run-keeps n (a ∷ more) k = run-keeps (answered c snap n a) more (answered-keeps n a k)

  -- with the entry that is staged
  staged-fits : (n : Node) → Keeps c from P n → P (n.kept ++ option_to_list (staged c n))
  unfolding staged
  staged-fits n k = go n.leaving
    where
      none : P (n.kept ++ [])
      none = subst P (sym (append-nil n.kept)) k.fits

      by : (ts : List Task) → n.tasks ≡ ts → P (n.kept ++ option_to_list (staged_by c n ts))
      by [] e = none
      by (Append p ev ∷ ts) e = grow n k.sound p ev (subst (AreHosted c) e k.hosted).0 k.fits
      by (Take p ev ∷ ts) e = none
      by (Flush ∷ ts) e = none
      by (Say text ∷ ts) e = none
      by (Ask p ev notes above ∷ ts) e = none
      by (Get p most count ∷ ts) e = none
      by (Word p line ∷ ts) e = none
      by (Post p q frame ∷ ts) e = none
      by (Mark ∷ ts) e = none

      go : (ls : List Leaving) → P (n.kept ++ option_to_list (staged_behind c n ls))
      go [] = by n.tasks refl
      go (l ∷ ls) = none

  pub left-fits : (f : Found) (n : Node) → Keeps c from P n → ((b : Bool) → P (with_or_without f b))
      → (b : Bool) → P (with_or_without (leaves c f n) b)
  unfolding leaves
  left-fits f n k fits b = go n.opening b
    where
      go : (os : List Opening) (b : Bool) → P (with_or_without (leaves_by c f n os) b)
      go [] true = staged-fits n k
      go [] false = k.fits
      go (o ∷ os) b = fits b

pub leaves_fit : LeavesFit
leaves_fit c snap from f n answers numbered valid sound hosted fits found b =
    left-fits c snap from numbered (FitsFrom c from) (fits-more c snap from numbered valid) f (run c snap n answers)
    (run-keeps c snap from numbered (FitsFrom c from) (fits-more c snap from numbered valid) n answers (record { sound = sound; fits = fits; hosted = hosted })) found b

-- ---- lives

abbrev pub from-start : Cast → ℕ → Process
from-start c = (from_start c).from

pub start-numbered : (c : Cast) → AreNumbered (from-start c)
start-numbered c p = refl

pub one-life : (c : Cast) (snap : Snapper) (f : Found) (r : Run) → SignsValidly c
    → ((b : Bool) → FitsFrom c (from-start c) (with_or_without f b)) → Lives c f (leaves c f (last_of c snap f r))
unfolding leaves
one-life c snap f r valid fits = record {
  fits = leaves_fit c snap (from-start c) f n r.answers (start-numbered c) valid o.sound
      (subst (AreHosted c) (sym o.tasks) tt) (subst (FitsFrom c (from-start c)) (sym o.kept) (fits r.with_more)) fits;
  grown = go (last_of c snap f r).opening;
}
  where
    n : Node
    n = opened_in c f r

    o : IsOpened c (from_start c) (with_or_without f r.with_more) n
    o = opens_sound c (from_start c) r.lines (with_or_without f r.with_more) (fits r.with_more)

    sure : (b : Bool) → IsPrefixOf f.sure (with_or_without f b)
    sure true = (option_to_list f.more, refl)
    sure false = prefix-self f.sure

    go : (os : List Opening) → IsPrefixOf f.sure (leaves_by c f (last_of c snap f r) os).sure
    go [] = prefix-trans f.sure n.kept (last_of c snap f r).kept (subst (IsPrefixOf f.sure) (sym o.kept) (sure r.with_more))
        (kept_grows c snap n r.answers)
    go (o ∷ os) = prefix-self f.sure

pub lives_on : LivesOn
unfolding lives
lives_on c snap f [] valid fits = record { fits = fits; grown = prefix-self f.sure }
lives_on c snap f (r ∷ rs) valid fits =
    let one = one-life c snap f r valid fits in
    let more = lives_on c snap (leaves c f (last_of c snap f r)) rs valid one.fits in
    record {
      fits = more.fits;
      grown = prefix-trans f.sure (leaves c f (last_of c snap f r)).sure (lives c snap f (r ∷ rs)).sure one.grown more.grown;
    }
