-- A node that is opened on the entries of its journal.
use Rattle.std.proofs.Common.{◌≡◌, ℕ, List, [], ◌∷◌, ◌++◌, Bool, true, false, refl, sym, ap, ◌∙◌, Some, None}
use Rattle.std.specs.Prelude.{◌==◌, if◌then◌else◌}
use Rattle.std.proofs.lemmas.Bool.{eqb-true, eq-eqb}
use Rattle.std.proofs.lemmas.List.Elements.{filter-append}
use Rattle.group_defs.specs.Process.{Setting, Process}
use Rattle.group_defs.specs.Events as group
use Rattle.group_defs.specs.Events.{after}
use Rattle.journal_defs.specs.Entries.{Entry}
use Rattle.guard_defs.specs.Guarding.{GuardRun, turns_of}
use Rattle.node_defs.specs.Casts.{Cast, kept_turn, entries_of, taken_up, turns_from}
use Rattle.node_defs.specs.Lines.{BadJournal}
use Rattle.node_defs.specs.Lives.{AreNumbered}
use Rattle.node_defs.specs.Nodes.{Node, reads, reads_one, takes_up}
use Rattle.node_laws.proofs.Entries.{taken-one, taken-me}
use Rattle.guarding_laws.specs.Marks.{Marked, entries_in, given_from, marks_of}

-- ---- entries that are read

swap : (a b : ℕ) → (a == b) ≡ false → (b == a) ≡ false
swap a b not = go (b == a) refl
  where
    go : (x : Bool) → (b == a) ≡ x → x ≡ false
    go true e = let is = eq-eqb a b (sym (eqb-true b a e)) in cc
    go false e = refl

kept-me : (s : Setting) (x : Process) (e : Entry) → (after s x (kept_turn x e)).me ≡ x.me
kept-me s x e = ap (λ (q : Process). q.me) (sym (taken-one s x e)) ∙ taken-me s x (e ∷ [])

module _ (c : Cast) where
  one-me : (n : Node) (e : Entry) → AreNumbered n.now → AreNumbered (reads_one c n e).now
  one-me n e numbered q = go (q == e.process)
    where
      go : (b : Bool) → (if b then after c.setting (n.now q) (kept_turn (n.now q) e) else n.now q).me ≡ q
      go true = kept-me c.setting (n.now q) e ∙ numbered q
      go false = numbered q

  -- whatever is read, each process bears its own number, and there is nothing to do
  pub reads-me : (n : Node) (es : List Entry) → AreNumbered n.now → AreNumbered (reads c n es).now
  unfolding reads
  reads-me n [] numbered = numbered
  reads-me n (e ∷ es) numbered = go (takes_up c n e) (reads-me (reads_one c n e) es (one-me n e numbered))
    where
      go : (b : Bool) → AreNumbered (reads c (reads_one c n e) es).now
          → AreNumbered (if b then reads c (reads_one c n e) es else record n { stopped = Some (BadJournal n.gate) }).now
      go true rest = rest
      go false rest = numbered

  pub reads-tasks : (n : Node) (es : List Entry) → n.tasks ≡ [] → (reads c n es).tasks ≡ []
  unfolding reads
  reads-tasks n [] none = none
  reads-tasks n (e ∷ es) none = go (takes_up c n e) (reads-tasks (reads_one c n e) es none)
    where
      go : (b : Bool) → (reads c (reads_one c n e) es).tasks ≡ []
          → (if b then reads c (reads_one c n e) es else record n { stopped = Some (BadJournal n.gate) }).tasks ≡ []
      go true rest = rest
      go false rest = none

  -- a process that took the first entry, if it is its own, and then takes the others
  one-taken : (n : Node) (q : ℕ) (e : Entry) (es : List Entry)
      → taken_up c.setting ((reads_one c n e).now q) (entries_of q es) ≡ taken_up c.setting (n.now q) (entries_of q (e ∷ es))
  unfolding turns_from group.run
  one-taken n q e es = go (q == e.process) refl
    where
      go : (b : Bool) → (q == e.process) ≡ b
          → taken_up c.setting (if q == e.process then after c.setting (n.now q) (kept_turn (n.now q) e) else n.now q) (entries_of q es)
          ≡ taken_up c.setting (n.now q) (entries_of q (e ∷ es))
      go true is =
          ap (λ b. taken_up c.setting (if b then after c.setting (n.now q) (kept_turn (n.now q) e) else n.now q) (entries_of q es)) is
          ∙ ap (λ b. taken_up c.setting (n.now q) (if b then e ∷ entries_of q es else entries_of q es))
          (sym (eq-eqb e.process q (sym (eqb-true q e.process is))))
      go false is =
          ap (λ b. taken_up c.setting (if b then after c.setting (n.now q) (kept_turn (n.now q) e) else n.now q) (entries_of q es)) is
          ∙ ap (λ b. taken_up c.setting (n.now q) (if b then e ∷ entries_of q es else entries_of q es)) (sym (swap q e.process is))

  -- where the reading came to its end, a process is what its entries make of it
  pub reads-now : (n : Node) (es : List Entry) (q : ℕ) → (reads c n es).stopped ≡ None
      → (reads c n es).now q ≡ taken_up c.setting (n.now q) (entries_of q es)
  unfolding reads turns_from group.run
  reads-now n [] q goes = refl
  reads-now n (e ∷ es) q goes = go (takes_up c n e) (λ more. reads-now (reads_one c n e) es q more ∙ one-taken n q e es) goes
    where
      go : (b : Bool) → ((reads c (reads_one c n e) es).stopped ≡ None
          → (reads c (reads_one c n e) es).now q ≡ taken_up c.setting (n.now q) (entries_of q (e ∷ es)))
          → (if b then reads c (reads_one c n e) es else record n { stopped = Some (BadJournal n.gate) }).stopped ≡ None
          → (if b then reads c (reads_one c n e) es else record n { stopped = Some (BadJournal n.gate) }).now q
          ≡ taken_up c.setting (n.now q) (entries_of q (e ∷ es))
      go true rest goes = rest goes
      go false rest goes = absurd cc

-- ---- marks

-- the entries of a process are the same, with their marks or without them
pub own-entries : (p : ℕ) (ms : List Marked) → entries_in (marks_of p ms) ≡ entries_of p (entries_in ms)
own-entries p [] = refl
own-entries p (m ∷ ms) = go (m.entry.process == p) (own-entries p ms)
  where
    go : (b : Bool) → entries_in (marks_of p ms) ≡ entries_of p (entries_in ms) → entries_in (if b then m ∷ marks_of p ms else marks_of p ms)
        ≡ (if b then m.entry ∷ entries_of p (entries_in ms) else entries_of p (entries_in ms))
    go true rest = ap (λ (es : List Entry). m.entry ∷ es) rest
    go false rest = rest

pub own-append : (p : ℕ) (ms more : List Marked) → marks_of p (ms ++ more) ≡ marks_of p ms ++ marks_of p more
own-append p ms more = filter-append (λ (m : Marked). m.entry.process == p) ms more

-- the turns of a guard are those that its entries keep
pub turns-kept : (s : Setting) (x : Process) (ms : List Marked) → turns_of (given_from s x ms) ≡ turns_from s x (entries_in ms)
unfolding given_from turns_from
turns-kept s x [] = refl
turns-kept s x (m ∷ ms) = ap (λ (ts : List group.Turn). kept_turn x m.entry ∷ ts) (turns-kept s (after s x (kept_turn x m.entry)) ms)

-- a guard that goes on, whatever was shown last, is one
pub guard-append : (s : Setting) (x : Process) (named : List ℕ) (ms more : List Marked) → GuardRun s x named (given_from s x ms)
    → ((shown : List ℕ) → GuardRun s (taken_up s x (entries_in ms)) shown (given_from s (taken_up s x (entries_in ms)) more))
    → GuardRun s x named (given_from s x (ms ++ more))
unfolding given_from turns_from group.run
guard-append s x named [] more run rest = rest named
guard-append s x named (m ∷ ms) more run rest = (run.0, guard-append s (after s x (kept_turn x m.entry)) _ ms more run.1 rest)
