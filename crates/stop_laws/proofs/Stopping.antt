-- Why a node stops, answer by answer.
use Rattle.std.proofs.Common.{◌≡◌, ◌≢◌, ℕ, suc, zero, ◌+◌, ◌^◌, ◌<◌, ◌==◌, nat_lt, Bool, true, false, if◌then◌else◌, List, [], ◌∷◌, length, Option, Some, None, refl, sym, subst, ◌∙◌}
use Rattle.std.proofs.lemmas.Bool.Decides.{Decides-ltb}
use Rattle.group_defs.specs.Events.{EventFault}
use Rattle.journal_defs.specs.Entries.{Event, entry_bytes}
use Rattle.node_defs.specs.Scripts.{Line, line_said, most_lines}
use Rattle.node_defs.specs.Lines.{Stop, BindFailed, BadLine, Full}
use Rattle.node_defs.specs.Casts.{Cast, entry_for, outcome_of}
use Rattle.node_defs.specs.Nodes.{Node, Opening, Bind, Greet, Serve, Finish, Leaving, Sends, Notes, Task, Take, Append, Flush, Say, Ask, Get, Word, Post, Mark, Answer, Done, Failed, Unremembered, Came, Broken, Said, Named, Digest, Snapper, ends, goes, is_full, after_step, after_line, after_task, after_leaving, after_read, answered, run}
use Rattle.stop_laws.proofs.Rested.{at, ends-so}
use Rattle.stop_laws.specs.Stops.{CanHaveStopped, StopsOnlySo}

below : (a b : ℕ) → nat_lt a b ≡ true → a < b
below a b is = (Decides-ltb a b).0 is

-- it has stopped as a node may that ran, and for no port
abbrev StopsFor : Option Stop → Type 0
StopsFor stopped = CanHaveStopped stopped × (stopped ≢ Some BindFailed)

by-step : (c : Cast) (n : Node) (p : ℕ) (e : Event) (verdict : Option EventFault) → StopsFor (after_step c n p e verdict).stop
by-step c n p e (Some fault) = (tt, λ e. absurd cc)
by-step c n p e None = of (is_full n.gate (entry_for c (n.now p) e)) refl
  where
    of : (b : Bool) → is_full n.gate (entry_for c (n.now p) e) ≡ b
        → StopsFor (if b then ends n [] (Full (n.gate + 1) (length (entry_bytes (entry_for c (n.now p) e)))) else goes n (Append p e ∷ [])).stop
    of true full = (below (2 ^ 30) (n.gate + 1 + length (entry_bytes (entry_for c (n.now p) e)) + 5) full, λ e. absurd cc)
    of false full = (tt, λ e. absurd cc)

by-line : (n : Node) (line : List ℕ) (many : Bool) (said : Option Line)
    → StopsFor (if many then ends n [] (BadLine (n.lines + 1)) else after_line n line said).stop
by-line n line true said = (tt, λ e. absurd cc)
by-line n line false None = (tt, λ e. absurd cc)
by-line n line false (Some said) = (tt, λ e. absurd cc)

module _ (c : Cast) (snap : Snapper) (n : Node) where
  -- the node after this answer
  abbrev Can : Node → Answer → Type 0
  Can m a = CanHaveStopped (answered c snap m a).stopped

  -- and once its opening is over
  abbrev IsPast : Node → Answer → Type 0
  IsPast m a = CanHaveStopped (answered c snap m a).stopped × ((answered c snap m a).stopped ≢ Some BindFailed)
      × ((answered c snap m a).opening ≡ [])

  by-opening : (o : Opening) (os : List Opening) (ls : List Leaving) (ts : List Task) (a : Answer) → Can (at n (o ∷ os) ls ts) a
  unfolding answered
  by-opening o os ls ts Unremembered = tt
  by-opening (Bind port) os ls ts Done = tt
  by-opening (Bind port) os ls ts Failed = tt
  by-opening (Bind port) os ls ts _ = tt
  by-opening (Greet text) os ls ts Done = tt
  by-opening (Greet text) os ls ts Failed = tt
  by-opening (Greet text) os ls ts _ = tt
  by-opening Serve os ls ts (Said text sends) = tt
  by-opening Serve os ls ts _ = tt
  by-opening Finish os ls ts Done = tt
  by-opening Finish os ls ts Failed = tt
  by-opening Finish os ls ts _ = tt

  by-leaving : (o : Leaving) (ls : List Leaving) (ts : List Task) (a : Answer) → IsPast (at n [] (o ∷ ls) ts) a
  unfolding answered after_leaving
  by-leaving o ls ts Unremembered = (tt, (λ e. absurd cc), refl)
  by-leaving (Sends p q frame) ls ts Done = (tt, (λ e. absurd cc), refl)
  by-leaving (Sends p q frame) ls ts Failed = (tt, (λ e. absurd cc), refl)
  by-leaving (Sends p q frame) ls ts _ = (tt, (λ e. absurd cc), refl)
  by-leaving (Notes p note) ls ts (Said text sends) = (tt, (λ e. absurd cc), refl)
  by-leaving (Notes p note) ls ts _ = (tt, (λ e. absurd cc), refl)

  by-get : (p most count : ℕ) (ts : List Task) (a : Answer) → IsPast (at n [] [] (Get p most count ∷ ts)) a
  unfolding answered after_task
  by-get p most count ts Unremembered = (tt, (λ e. absurd cc), refl)
  by-get p zero count ts Done = (tt, (λ e. absurd cc), refl)
  by-get p zero count ts _ = (tt, (λ e. absurd cc), refl)
  by-get p (suc most) count ts Done = (tt, (λ e. absurd cc), refl)
  by-get p (suc most) count ts Failed = (tt, (λ e. absurd cc), refl)
  by-get p (suc most) count ts (Came bytes) = (tt, (λ e. absurd cc), refl)
  by-get p (suc most) count ts _ = (tt, (λ e. absurd cc), refl)

  by-task : (task : Task) (ts : List Task) (a : Answer) → IsPast (at n [] [] (task ∷ ts)) a
  unfolding answered after_task
  by-task (Get p most count) ts a = by-get p most count ts a
  by-task task ts Unremembered = (tt, (λ e. absurd cc), refl)
  by-task Flush ts Done = (tt, (λ e. absurd cc), refl)
  by-task Flush ts Failed = (tt, (λ e. absurd cc), refl)
  by-task Flush ts _ = (tt, (λ e. absurd cc), refl)
  by-task (Say text) ts Done = (tt, (λ e. absurd cc), refl)
  by-task (Say text) ts Failed = (tt, (λ e. absurd cc), refl)
  by-task (Say text) ts _ = (tt, (λ e. absurd cc), refl)
  by-task (Take p e) ts Done =
      let is = by-step c (at n [] [] (Take p e ∷ ts)) p e (outcome_of c (n.now p) e).verdict in
      (is.0, is.1, refl)
  by-task (Take p e) ts _ = (tt, (λ e. absurd cc), refl)
  by-task (Append p e) ts Done = (tt, (λ e. absurd cc), refl)
  by-task (Append p e) ts Failed = (tt, (λ e. absurd cc), refl)
  by-task (Append p e) ts _ = (tt, (λ e. absurd cc), refl)
  by-task (Ask p e notes above) ts Done = (tt, (λ e. absurd cc), refl)
  by-task (Ask p e notes above) ts (Named q) = (tt, (λ e. absurd cc), refl)
  by-task (Ask p e notes above) ts _ = (tt, (λ e. absurd cc), refl)
  by-task (Word p line) ts (Said text sends) = (tt, (λ e. absurd cc), refl)
  by-task (Word p line) ts Done = (tt, (λ e. absurd cc), refl)
  by-task (Word p line) ts _ = (tt, (λ e. absurd cc), refl)
  by-task (Post p q frame) ts Done = (tt, (λ e. absurd cc), refl)
  by-task (Post p q frame) ts Failed = (tt, (λ e. absurd cc), refl)
  by-task (Post p q frame) ts _ = (tt, (λ e. absurd cc), refl)
  by-task Mark ts (Digest digest) = (tt, (λ e. absurd cc), refl)
  by-task Mark ts Failed = (tt, (λ e. absurd cc), refl)
  by-task Mark ts _ = (tt, (λ e. absurd cc), refl)

  by-read : (a : Answer) → IsPast (at n [] [] []) a
  unfolding answered after_read
  by-read Unremembered = (tt, (λ e. absurd cc), refl)
  by-read Done = (tt, (λ e. absurd cc), refl)
  by-read Failed = (tt, (λ e. absurd cc), refl)
  by-read Broken = (tt, (λ e. absurd cc), refl)
  by-read (Came line) =
      let is = by-line (at n [] [] []) line (n.script == most_lines) (line_said c.hosted line) in
      (is.0, is.1, refl)
  by-read _ = (tt, (λ e. absurd cc), refl)

  past-any : (ls : List Leaving) (ts : List Task) (a : Answer) → IsPast (at n [] ls ts) a
  past-any (x ∷ ls) ts a = by-leaving x ls ts a
  past-any [] (x ∷ ts) a = by-task x ts a
  past-any [] [] a = by-read a

  by-any : (os : List Opening) (ls : List Leaving) (ts : List Task) (a : Answer) → Can (at n os ls ts) a
  by-any (o ∷ os) ls ts a = by-opening o os ls ts a
  by-any [] ls ts a = (past-any ls ts a).0

  -- of a node that runs
  one-call : (a : Answer) → n.stopped ≡ None → Can n a
  one-call a runs = subst (λ (m : Node). Can m a) (λ i. record n { stopped = sym runs i }) (by-any n.opening n.leaving n.tasks a)

  one-past : (a : Answer) → n.stopped ≡ None → n.opening ≡ [] → IsPast n a
  one-past a runs opened = subst (λ (m : Node). IsPast m a) (λ i. record n { stopped = sym runs i; opening = sym opened i })
      (past-any n.leaving n.tasks a)

-- a node whose opening is over stops for no port
pub past-all : (c : Cast) (snap : Snapper) (answers : List Answer) (n : Node) → n.stopped ≡ None → n.opening ≡ []
    → (run c snap n answers).stopped ≢ Some BindFailed
unfolding run
past-all c snap [] n runs opened = λ e. let none : None ≡ Some BindFailed = sym runs ∙ e in absurd cc
past-all c snap (a ∷ more) n runs opened =
    of (answered c snap n a).stopped refl (λ is. past-all c snap more (answered c snap n a) is next.2)
  where
    next : IsPast c snap n n a
    next = one-past c snap n a runs opened

    of : (stopped : Option Stop) → (answered c snap n a).stopped ≡ stopped
        → ((answered c snap n a).stopped ≡ None → (run c snap (answered c snap n a) more).stopped ≢ Some BindFailed)
        → (run c snap (answered c snap n a) more).stopped ≢ Some BindFailed
    of None is rest = rest is
    of (Some why) is rest = subst (λ (m : Node). m.stopped ≢ Some BindFailed) (sym (ends-so c snap why (answered c snap n a) more is)) next.1

whole : (c : Cast) (snap : Snapper) (answers : List Answer) (n : Node) → n.stopped ≡ None → CanHaveStopped (run c snap n answers).stopped
unfolding run
whole c snap [] n runs = subst CanHaveStopped (sym runs) tt
whole c snap (a ∷ more) n runs = of m.stopped refl (whole c snap more m)
  where
    m : Node
    m = answered c snap n a

    of : (stopped : Option Stop) → m.stopped ≡ stopped → (m.stopped ≡ None → CanHaveStopped (run c snap m more).stopped)
        → CanHaveStopped (run c snap m more).stopped
    of None is rest = rest is
    of (Some why) is rest = subst (λ (w : Node). CanHaveStopped w.stopped) (sym (ends-so c snap why m more is)) (one-call c snap n a runs)

pub stops_only_so : StopsOnlySo
stops_only_so c snap most n m x y went runs =
    subst (λ (w : Node). CanHaveStopped w.stopped) (sym went.becomes) (whole c snap went.answers n runs)
