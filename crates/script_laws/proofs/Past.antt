-- A node whose opening is over stops for no bind.
use Rattle.std.proofs.Common.{◌≡◌, ◌≢◌, inl, inr, ℕ, suc, zero, ◌+◌, ◌==◌, Bool, true, false, if◌then◌else◌, List, [], ◌∷◌, length, Option, Some, None, refl, sym, ap, subst, ◌∙◌}
use Rattle.group_defs.specs.Events.{EventFault}
use Rattle.journal_defs.specs.Entries.{Event, entry_bytes}
use Rattle.node_defs.specs.Scripts.{Line, line_said, most_lines}
use Rattle.node_defs.specs.Lines.{Stop, BindFailed, BadLine, Full}
use Rattle.node_defs.specs.Casts.{Cast, entry_for, outcome_of}
use Rattle.node_defs.specs.Nodes.{Node, Opening, Bind, Greet, Serve, Finish, Leaving, Sends, Notes, Task, Take, Append, Flush, Say, Ask, Get, Word, Post, Mark, Answer, Done, Failed, Unremembered, Came, Broken, Said, Named, Digest, Snapper, ends, goes, is_full, after_step, after_line, after_task, after_leaving, after_read, call_of, answered, run}
use Rattle.node_traces.specs.Outside.{LinkSeen, LinkStep}
use Rattle.script_laws.specs.Faults.{ByCount}
use Rattle.script_laws.proofs.Calls.{at}
use Rattle.script_laws.proofs.Rested.{ends-so}

-- ---- binds

-- the link, by what the node has stopped for
abbrev pub Bound : Option Stop → LinkSeen → LinkSeen → Type 0
Bound stopped k l = ByCount stopped BindFailed k.faults l.faults

same-link : (k l : LinkSeen) → k ≡ l → l.faults ≡ k.faults
same-link k l e = sym (ap (λ (x : LinkSeen). x.faults) e)

-- its opening is over, and it has stopped for no bind
abbrev IsPast : Node → Type 0
IsPast m = (m.stopped ≢ Some BindFailed) × (m.opening ≡ [])

no-bind-step : (c : Cast) (n : Node) (p : ℕ) (e : Event) (verdict : Option EventFault) → (after_step c n p e verdict).stop ≢ Some BindFailed
no-bind-step c n p e (Some fault) = λ e. absurd cc
no-bind-step c n p e None = of (is_full n.gate (entry_for c (n.now p) e))
  where
    of : (b : Bool) → (if b then ends n [] (Full (n.gate + 1) (length (entry_bytes (entry_for c (n.now p) e))))
        else goes n (Append p e ∷ [])).stop ≢ Some BindFailed
    of true = λ e. absurd cc
    of false = λ e. absurd cc

no-bind-line : (n : Node) (line : List ℕ) (many : Bool) (said : Option Line)
    → (if many then ends n [] (BadLine (n.lines + 1)) else after_line n line said).stop ≢ Some BindFailed
no-bind-line n line true said = λ e. absurd cc
no-bind-line n line false None = λ e. absurd cc
no-bind-line n line false (Some said) = λ e. absurd cc

module _ (c : Cast) (snap : Snapper) (n : Node) where
  pub binds-one : (o : Opening) (os : List Opening) (ls : List Leaving) (ts : List Task) (a : Answer) (k l : LinkSeen)
      → LinkStep k (call_of c (at n (o ∷ os) ls ts), a) l → Bound (answered c snap (at n (o ∷ os) ls ts) a).stopped k l
  unfolding call_of answered
  binds-one (Bind port) os ls ts Failed k l link = inl (refl, link.rose)
  binds-one (Bind port) os ls ts _ k l link = inr ((λ e. absurd cc), same-link k l link)
  binds-one (Greet text) os ls ts Done k l link = inr ((λ e. absurd cc), same-link k l link)
  binds-one (Greet text) os ls ts Failed k l link = inr ((λ e. absurd cc), same-link k l link)
  binds-one (Greet text) os ls ts _ k l link = inr ((λ e. absurd cc), same-link k l link)
  binds-one Serve os ls ts (Said text sends) k l link = inr ((λ e. absurd cc), same-link k l link)
  binds-one Serve os ls ts _ k l link = inr ((λ e. absurd cc), same-link k l link)
  binds-one Finish os ls ts Failed k l link = inr ((λ e. absurd cc), same-link k l link)
  binds-one Finish os ls ts _ k l link = inr ((λ e. absurd cc), same-link k l link)

  past-leaving : (o : Leaving) (ls : List Leaving) (ts : List Task) (a : Answer) → IsPast (answered c snap (at n [] (o ∷ ls) ts) a)
  unfolding answered after_leaving
  past-leaving o ls ts Unremembered = ((λ e. absurd cc), refl)
  past-leaving (Sends p q frame) ls ts Done = ((λ e. absurd cc), refl)
  past-leaving (Sends p q frame) ls ts _ = ((λ e. absurd cc), refl)
  past-leaving (Notes p note) ls ts (Said text sends) = ((λ e. absurd cc), refl)
  past-leaving (Notes p note) ls ts _ = ((λ e. absurd cc), refl)

  past-get : (p m count : ℕ) (ts : List Task) (a : Answer) → IsPast (answered c snap (at n [] [] (Get p m count ∷ ts)) a)
  unfolding answered after_task
  past-get p m count ts Unremembered = ((λ e. absurd cc), refl)
  past-get p zero count ts Done = ((λ e. absurd cc), refl)
  past-get p zero count ts _ = ((λ e. absurd cc), refl)
  past-get p (suc m) count ts Done = ((λ e. absurd cc), refl)
  past-get p (suc m) count ts Failed = ((λ e. absurd cc), refl)
  past-get p (suc m) count ts (Came bytes) = ((λ e. absurd cc), refl)
  past-get p (suc m) count ts _ = ((λ e. absurd cc), refl)

  past-task : (task : Task) (ts : List Task) (a : Answer) → IsPast (answered c snap (at n [] [] (task ∷ ts)) a)
  unfolding answered after_task
  past-task (Get p m count) ts a = past-get p m count ts a
  past-task task ts Unremembered = ((λ e. absurd cc), refl)
  past-task Flush ts Done = ((λ e. absurd cc), refl)
  past-task Flush ts Failed = ((λ e. absurd cc), refl)
  past-task Flush ts _ = ((λ e. absurd cc), refl)
  past-task (Say text) ts Done = ((λ e. absurd cc), refl)
  past-task (Say text) ts Failed = ((λ e. absurd cc), refl)
  past-task (Say text) ts _ = ((λ e. absurd cc), refl)
  past-task (Take p e) ts Done = (no-bind-step c (at n [] [] (Take p e ∷ ts)) p e (outcome_of c (n.now p) e).verdict, refl)
  past-task (Take p e) ts _ = ((λ e. absurd cc), refl)
  past-task (Append p e) ts Done = ((λ e. absurd cc), refl)
  past-task (Append p e) ts Failed = ((λ e. absurd cc), refl)
  past-task (Append p e) ts _ = ((λ e. absurd cc), refl)
  past-task (Ask p e notes above) ts Done = ((λ e. absurd cc), refl)
  past-task (Ask p e notes above) ts (Named q) = ((λ e. absurd cc), refl)
  past-task (Ask p e notes above) ts _ = ((λ e. absurd cc), refl)
  past-task (Word p line) ts (Said text sends) = ((λ e. absurd cc), refl)
  past-task (Word p line) ts Done = ((λ e. absurd cc), refl)
  past-task (Word p line) ts _ = ((λ e. absurd cc), refl)
  past-task (Post p q frame) ts Done = ((λ e. absurd cc), refl)
  past-task (Post p q frame) ts Failed = ((λ e. absurd cc), refl)
  past-task (Post p q frame) ts _ = ((λ e. absurd cc), refl)
  past-task Mark ts (Digest digest) = ((λ e. absurd cc), refl)
  past-task Mark ts Failed = ((λ e. absurd cc), refl)
  past-task Mark ts _ = ((λ e. absurd cc), refl)

  past-read : (a : Answer) → IsPast (answered c snap (at n [] [] []) a)
  unfolding answered after_read
  past-read Unremembered = ((λ e. absurd cc), refl)
  past-read Done = ((λ e. absurd cc), refl)
  past-read Failed = ((λ e. absurd cc), refl)
  past-read Broken = ((λ e. absurd cc), refl)
  past-read (Came line) = (no-bind-line (at n [] [] []) line (n.script == most_lines) (line_said c.hosted line), refl)
  past-read _ = ((λ e. absurd cc), refl)

  past-any : (ls : List Leaving) (ts : List Task) (a : Answer) → IsPast (answered c snap (at n [] ls ts) a)
  past-any (x ∷ ls) ts a = past-leaving x ls ts a
  past-any [] (x ∷ ts) a = past-task x ts a
  past-any [] [] a = past-read a

-- a node whose opening is over stops for no bind
past-one : (c : Cast) (snap : Snapper) (n : Node) (a : Answer) → n.stopped ≡ None → n.opening ≡ [] → IsPast (answered c snap n a)
past-one c snap n a runs opened = subst (λ (m : Node). IsPast (answered c snap m a)) (λ i. record n { stopped = sym runs i; opening = sym opened i })
    (past-any c snap n n.leaving n.tasks a)

pub past-all : (c : Cast) (snap : Snapper) (answers : List Answer) (n : Node) → n.stopped ≡ None → n.opening ≡ []
    → (run c snap n answers).stopped ≢ Some BindFailed
unfolding run
past-all c snap [] n runs opened = λ e. let none : None ≡ Some BindFailed = sym runs ∙ e in absurd cc
past-all c snap (a ∷ more) n runs opened = of (answered c snap n a).stopped refl (λ is. past-all c snap more (answered c snap n a) is next.1)
  where
    next : IsPast (answered c snap n a)
    next = past-one c snap n a runs opened

    of : (stopped : Option Stop) → (answered c snap n a).stopped ≡ stopped
        → ((answered c snap n a).stopped ≡ None → (run c snap (answered c snap n a) more).stopped ≢ Some BindFailed)
        → (run c snap (answered c snap n a) more).stopped ≢ Some BindFailed
    of None is rest = rest is
    of (Some why) is rest = subst (λ (m : Node). m.stopped ≢ Some BindFailed) (sym (ends-so c snap why (answered c snap n a) more is)) next.0
