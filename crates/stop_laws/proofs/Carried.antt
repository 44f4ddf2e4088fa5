-- A script in the node's own words, over a part of a run.
use Rattle.std.proofs.Common.{◌≡◌, ℕ, suc, zero, ◌+◌, ◌==◌, List, [], ◌∷◌, Option, Some, None, refl, sym, subst}
use Rattle.std.proofs.lemmas.Bool.{ne_eqb}
use Rattle.node_defs.specs.Scripts.{line_said, most_lines}
use Rattle.node_defs.specs.Lines.{Stop}
use Rattle.node_defs.specs.Casts.{Cast, outcome_of}
use Rattle.node_defs.specs.Nodes.{Node, Opening, Bind, Greet, Serve, Finish, Leaving, Sends, Notes, Task, Take, Append, Flush, Say, Ask, Get, Word, Post, Mark, Answer, Done, Failed, Unremembered, Came, Broken, Said, Named, Digest, Snapper, after_task, after_leaving, after_read, call_of, answered, run, calls}
use Rattle.node_traces.specs.Ways.{Through}
use Rattle.node_traces.specs.Outside.{SourceSeen, SourceStep, SourceAnswered}
use Rattle.stop_laws.proofs.Rested.{at, ends-so, nothing-more}
use Rattle.stop_laws.specs.Scripts.{ScriptIsCarriedOut}
use Rattle.stop_laws.proofs.Own.{AreOwn, GoesOn, NoLine, Own, broken-not, own-append, own-asks, own-came, own-gets, own-line, own-step, quiet, runs-on, took-own}

module _ (c : Cast) (snap : Snapper) (most : ℕ) (n : Node) (s t : SourceSeen) where
  -- after this answer to the node's next call
  abbrev Is : Node → Answer → Type 0
  Is m a = SourceStep most s (call_of c m, a) t → AreOwn m.tasks → GoesOn most c.hosted m.script s.left → Own c most (answered c snap m a) t.left

  still : (m : Node) → NoLine m.stopped → AreOwn m.tasks → s ≡ t → GoesOn most c.hosted m.script s.left → Own c most m t.left
  still m stopped tasks same goes_on = record {
    stopped = stopped;
    tasks = tasks;
    script = subst (λ (x : SourceSeen). GoesOn most c.hosted m.script x.left) same goes_on;
  }

  by-opening : (o : Opening) (os : List Opening) (ls : List Leaving) (ts : List Task) (a : Answer) → Is (at n (o ∷ os) ls ts) a
  unfolding call_of answered
  by-opening o os ls ts Unremembered step own more = still _ (λ number e. absurd cc) own (quiet most s t (call_of c (at n (o ∷ os) ls ts)) step) more
  by-opening (Bind port) os ls ts Done step own more = still _ runs-on own step more
  by-opening (Bind port) os ls ts Failed step own more = still _ (λ number e. absurd cc) own step more
  by-opening (Bind port) os ls ts _ step own more = still _ runs-on own step more
  by-opening (Greet text) os ls ts Done step own more = still _ runs-on own step more
  by-opening (Greet text) os ls ts Failed step own more = still _ (λ number e. absurd cc) own step more
  by-opening (Greet text) os ls ts _ step own more = still _ runs-on own step more
  by-opening Serve os ls ts (Said text sends) step own more = still _ runs-on own step more
  by-opening Serve os ls ts _ step own more = still _ runs-on own step more
  by-opening Finish os ls ts Done step own more = still _ runs-on own step more
  by-opening Finish os ls ts Failed step own more = still _ (λ number e. absurd cc) own step more
  by-opening Finish os ls ts _ step own more = still _ runs-on own step more

  by-leaving : (o : Leaving) (ls : List Leaving) (ts : List Task) (a : Answer) → Is (at n [] (o ∷ ls) ts) a
  unfolding call_of answered after_leaving
  by-leaving o ls ts Unremembered step own more = still _ (λ number e. absurd cc) own (quiet most s t (call_of c (at n [] (o ∷ ls) ts)) step) more
  by-leaving (Sends p q frame) ls ts Done step own more = still _ runs-on own step more
  by-leaving (Sends p q frame) ls ts Failed step own more = still _ runs-on own step more
  by-leaving (Sends p q frame) ls ts _ step own more = still _ runs-on own step more
  by-leaving (Notes p note) ls ts (Said text sends) step own more = still _ runs-on own step more
  by-leaving (Notes p note) ls ts _ step own more = still _ runs-on own step more

  by-get : (p m count : ℕ) (ts : List Task) (a : Answer) → Is (at n [] [] (Get p m count ∷ ts)) a
  unfolding call_of answered after_task
  by-get p m count ts Unremembered step own more = still _ (λ number e. absurd cc) own (quiet most s t (call_of c (at n [] [] (Get p m count ∷ ts))) step) more
  by-get p zero count ts Done step own more = still _ runs-on own step more
  by-get p zero count ts _ step own more = still _ runs-on own step more
  by-get p (suc m) count ts Done step own more = still _ runs-on (tt, own.1) step more
  by-get p (suc m) count ts Failed step own more = still _ runs-on (tt, own.1) step more
  by-get p (suc m) count ts (Came bytes) step own more =
      still _ runs-on (own-append _ ts (own-append _ _ (own-came p (c.unseal p bytes)) (own-gets p m (count + 1))) own.1) step more
  by-get p (suc m) count ts _ step own more = still _ runs-on own step more

  by-task : (task : Task) (ts : List Task) (a : Answer) → Is (at n [] [] (task ∷ ts)) a
  unfolding call_of answered after_task
  by-task (Get p m count) ts a step own more = by-get p m count ts a step own more
  by-task task ts Unremembered step own more = still _ (λ number e. absurd cc) own (quiet most s t (call_of c (at n [] [] (task ∷ ts))) step) more
  by-task Flush ts Done step own more = still _ runs-on own.1 step more
  by-task Flush ts Failed step own more = still _ (λ number e. absurd cc) own.1 step more
  by-task Flush ts _ step own more = still _ runs-on own step more
  by-task (Say text) ts Done step own more = still _ runs-on own.1 step more
  by-task (Say text) ts Failed step own more = still _ (λ number e. absurd cc) own.1 step more
  by-task (Say text) ts _ step own more = still _ runs-on own step more
  by-task (Take p e) ts Done step own more =
      let is = own-step c (at n [] [] (Take p e ∷ ts)) p e (outcome_of c (n.now p) e).verdict in
      still _ is.0 (own-append _ ts is.1 own.1) step more
  by-task (Take p e) ts _ step own more = still _ runs-on own step more
  by-task (Append p e) ts Done step own more =
      still _ runs-on (tt, own-append _ ts (own-asks p e (outcome_of c (n.now p) e).notes) own.1) step more
  by-task (Append p e) ts Failed step own more = still _ (λ number e. absurd cc) (tt, own.1) step more
  by-task (Append p e) ts _ step own more = still _ runs-on own step more
  by-task (Ask p e notes above) ts Done step own more = still _ runs-on own.1 step more
  by-task (Ask p e notes above) ts (Named q) step own more = still _ runs-on (tt, (tt, (tt, own.1))) step more
  by-task (Ask p e notes above) ts _ step own more = still _ runs-on own step more
  by-task (Word p l) ts a step own more = absurd own.0
  by-task (Post p q frame) ts Done step own more = still _ runs-on own.1 step more
  by-task (Post p q frame) ts Failed step own more = still _ runs-on own.1 step more
  by-task (Post p q frame) ts _ step own more = still _ runs-on own step more
  by-task Mark ts (Digest digest) step own more = still _ runs-on (tt, own.1) step more
  by-task Mark ts Failed step own more = still _ (λ number e. absurd cc) own.1 step more
  by-task Mark ts _ step own more = still _ runs-on own step more

  same-left : (script : ℕ) → t.left ≡ s.left → GoesOn most c.hosted script s.left → GoesOn most c.hosted script t.left
  same-left script same more = subst (GoesOn most c.hosted script) (sym same) more

  by-read : (a : Answer) → Is (at n [] [] []) a
  unfolding call_of answered after_read
  by-read Unremembered step own more = still _ (λ number e. absurd cc) own (quiet most s t (call_of c (at n [] [] [])) step) more
  by-read Done step own more = record { stopped = λ number e. absurd cc; tasks = tt; script = same-left n.script step.left more }
  by-read Failed step own more = record { stopped = λ number e. absurd cc; tasks = tt; script = same-left n.script step.left more }
  by-read Broken step own more = absurd (broken-not most c.hosted n.script s.left more step.broken)
  by-read (Came line) step own more =
      let took = took-own most c.hosted n.script s.left t.left line more step.taken in
      let is = own-line (at n [] [] []) line (n.script == most_lines) (line_said c.hosted line) took.said
      (ne_eqb n.script most_lines took.room) took.says took.own in
      record { stopped = is.0; tasks = own-append _ [] is.1 tt; script = took.script }
  by-read _ step own more = still _ runs-on own step more

  by-any : (os : List Opening) (ls : List Leaving) (ts : List Task) (a : Answer) → Is (at n os ls ts) a
  by-any (o ∷ os) ls ts a = by-opening o os ls ts a
  by-any [] (x ∷ ls) ts a = by-leaving x ls ts a
  by-any [] [] (x ∷ ts) a = by-task x ts a
  by-any [] [] [] a = by-read a

  -- of a node that runs
  one-call : (a : Answer) → n.stopped ≡ None → Is n a
  one-call a runs = subst (λ (m : Node). Is m a) (λ i. record n { stopped = sym runs i }) (by-any n.opening n.leaving n.tasks a)

module _ (c : Cast) (snap : Snapper) (most : ℕ) where
  whole : (answers : List Answer) (n : Node) (s t : SourceSeen) → n.stopped ≡ None → Own c most n s.left
      → SourceAnswered most s (calls c snap n answers) t → Own c most (run c snap n answers) t.left
  unfolding run calls Through
  whole [] n s t runs own source = subst (λ (x : SourceSeen). Own c most n x.left) source own
  whole (a ∷ more) n s t runs own source =
      of m.stopped refl (one-call c snap most n s source.0 a runs source.1 own.tasks own.script)
      (λ is now. whole more m source.0 t is now source.2)
    where
      m : Node
      m = answered c snap n a

      of : (stopped : Option Stop) → m.stopped ≡ stopped → Own c most m source.0.left
          → (m.stopped ≡ None → Own c most m source.0.left → Own c most (run c snap m more) t.left) → Own c most (run c snap m more) t.left
      of None is now rest = rest is now
      of (Some why) is now rest =
          let same = nothing-more c snap why (SourceStep most) (λ x y b e. e) m more source.0 t is source.2 in
          subst (λ (w : Node). Own c most w t.left) (sym (ends-so c snap why m more is))
          (subst (λ (x : SourceSeen). Own c most m x.left) same now)

pub script_is_carried_out : ScriptIsCarriedOut
script_is_carried_out c snap most n m x y room bytes went runs idle fits left script =
    let own = whole c snap most went.answers n x.source y.source runs (record {
      stopped = subst NoLine (sym runs) runs-on;
      tasks = subst AreOwn (sym idle) tt;
      script = subst (GoesOn most c.hosted n.script) (sym left) (room, fits, script);
    }) went.source in
    let end = subst (λ (w : Node). Own c most w y.source.left) (sym went.becomes) own in
    end.stopped
