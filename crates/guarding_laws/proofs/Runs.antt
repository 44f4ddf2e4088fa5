-- A node whose service is a guard's, through its runs.
use Rattle.std.proofs.Common.{◌≡◌, ℕ, List, [], ◌∷◌, ◌++◌, map, Bool, true, false, refl, sym, ap, ◌∙◌, subst, Option, Some, None}
use Rattle.std.specs.Prelude.{option_map}
use Rattle.std.specs.Option.{option_to_list}
use Rattle.std.proofs.lemmas.List.{append-nil, append_assoc, map-append}
use Rattle.group_defs.specs.Process.{Setting, Process, start}
use Rattle.journal_defs.specs.Entries.{Entry}
use Rattle.group_defs.specs.Events.{Turn}
use Rattle.group_defs.specs.Family.{Correct}
use Rattle.guard_defs.specs.Guarding.{Guard, GuardRun, IsGuarded, correct_of}
use Rattle.guard_service.specs.Answers.{AreGuards}
use Rattle.node_defs.specs.Casts.{Cast, from_start, taken_up, turns_from}
use Rattle.node_defs.specs.Lines.{Stop}
use Rattle.node_defs.specs.Lives as plain
use Rattle.node_defs.specs.Lives.{AreNumbered, FitsFrom, Found, Run, SignsValidly, last_of, leaves, leaves_by, lives, staged, staged_behind, staged_by}
use Rattle.node_defs.specs.Nodes.{Node, Opening, Leaving, Task, Answer, Snapper, at_first, opens, run, calls}
use Rattle.node_laws.proofs.Openings.{opens_sound}
use Rattle.node_laws.proofs.Fitting.{lives_on}
use Rattle.node_traces.specs.Service.{Asked, asked_by}
use Rattle.pool_laws.proofs.Members.{All-mem, Mem, map-mem, mem-All}
use Rattle.guarding_laws.specs.Marks.{Marked, entries_in, is_guards_after, marked_by, given_from, marks_of, FoundMarked, found_in, with_or_without, opened, leaves_marked, lives_marked}
use Rattle.guarding_laws.specs.Laws.{IsGuardIn, RunsGoOnAsGuards, AreOfGuards, AnswerAsGuards, fresh, LivesAreGuards, Hosted, guard_in, ran_in, NodesAreGuards}
use Rattle.guarding_laws.proofs.Opened.{reads-me, reads-now, reads-tasks, own-append, own-entries, guard-append, turns-kept}
use Rattle.guarding_laws.proofs.Calm.{Ready}
use Rattle.guarding_laws.proofs.Steps.{Ends, run-on, none-after, staged-after, run-kept, stays, stopped-marks}

module _ (c : Cast) (lines : ℕ) (found : List Marked) where
  -- the node that is opened on them
  abbrev node : Node
  node = opens c (from_start c) lines (entries_in found)

  numbered : AreNumbered node.now
  numbered = reads-me c (at_first (from_start c) lines) (entries_in found) (λ q. refl)

  ready : (p : ℕ) (by : Bool) (named : List ℕ) → Ready c p node.now by named node.tasks
  ready p by named = subst (λ (ts : List Task). Ready c p node.now by named ts)
      (sym (reads-tasks c (at_first (from_start c) lines) (entries_in found) refl)) tt

  -- a process that was a guard goes on as one, with what is marked after the run
  goes-on : (snap : Snapper) (p : ℕ) (tail : Bool → Node → List Marked) → Ends c snap p tail → (answers : List Answer)
      → AreGuards (asked_by c snap node answers) → IsGuardIn c found p → node.stopped ≡ None
      → IsGuardIn c (found ++ (marked_by c snap node answers ++ tail (is_guards_after false (calls c snap node answers)) (run c snap node answers))) p
  goes-on snap p tail ends answers are guard goes =
      let first : Process = start c.setting p c.batch_limit in
      let more : List Marked = marked_by c snap node answers ++ tail (is_guards_after false (calls c snap node answers)) (run c snap node answers) in
      let now : node.now p ≡ taken_up c.setting first (entries_in (marks_of p found)) =
      reads-now c (at_first (from_start c) lines) (entries_in found) p goes
      ∙ ap (taken_up c.setting first) (sym (own-entries p found)) in
      subst (λ (ms : List Marked). GuardRun c.setting first [] (given_from c.setting first ms)) (sym (own-append p found more))
      (guard-append c.setting first [] (marks_of p found) (marks_of p more) guard
      (λ shown. subst (λ (x : Process). GuardRun c.setting x shown (given_from c.setting x (marks_of p more))) now
      (run-on c snap p tail ends node false shown answers numbered (ready p false shown) are)))

  -- the node goes on, or it has stopped
  goes-or-stops : (P : Type 0) → (node.stopped ≡ None → P) → ((why : Stop) → node.stopped ≡ Some why → P) → P
  goes-or-stops P goes stops = go node.stopped refl
    where
      go : (o : Option Stop) → node.stopped ≡ o → P
      go None is = goes is
      go (Some why) is = stops why is

  run-guards : (snap : Snapper) (answers : List Answer) → AreGuards (asked_by c snap node answers) → (p : ℕ) → IsGuardIn c found p
      → IsGuardIn c (found ++ marked_by c snap node answers) p
  run-guards snap answers are p guard = goes-or-stops (IsGuardIn c (found ++ marked_by c snap node answers) p)
      (λ goes. subst (λ (ms : List Marked). IsGuardIn c (found ++ ms) p) (append-nil (marked_by c snap node answers))
      (goes-on snap p (λ by n. []) (none-after c snap p) answers are guard goes))
      (λ why stopped. subst (λ (ms : List Marked). IsGuardIn c ms p)
      (sym (append-nil found)
      ∙ ap (λ (ms : List Marked). found ++ ms) (sym (stopped-marks c snap p node false why answers stopped))) guard)

pub runs_go_on_as_guards : RunsGoOnAsGuards
runs_go_on_as_guards c snap lines found answers are = record {
  kept = λ fits. run-kept c snap 0 (node c lines found) false [] answers (numbered c lines found) (ready c lines found 0 false []) are
      ∙ ap (λ (es : List Entry). es ++ entries_in (marked_by c snap (node c lines found) answers))
      (opens_sound c (from_start c) lines (entries_in found) fits).kept
      ∙ sym (map-append (λ (m : Marked). m.entry) found (marked_by c snap (node c lines found) answers));
  guards = run-guards c lines found snap answers are;
}

pub are_of_guards : (asked : List Asked) → AreGuards asked → AreOfGuards asked
are_of_guards asked are = record {
  answered = are;
  guards = λ c snap lines found answers is. runs_go_on_as_guards c snap lines found answers (subst (λ (h : List Asked). AreGuards h) is are);
}

-- ---- what a stop leaves

with-entries : (f : FoundMarked) (b : Bool) → entries_in (with_or_without f b) ≡ plain.with_or_without (found_in f) b
with-entries f false = refl
with-entries f true = map-append (λ (m : Marked). m.entry) f.sure (option_to_list f.more)
    ∙ ap (λ (es : List Entry). entries_in f.sure ++ es) (go f.more)
  where
    go : (o : Option Marked) → entries_in (option_to_list o) ≡ option_to_list (option_map (λ (m : Marked). m.entry) o)
    go None = refl
    go (Some m) = refl

module _ (c : Cast) (snap : Snapper) where
  -- a node that has stopped stays as it is, and with nothing to do it has staged nothing
  run-stays : (n : Node) (why : Stop) (answers : List Answer) → n.stopped ≡ Some why → run c snap n answers ≡ n
  unfolding run
  run-stays n why [] stopped = refl
  run-stays n why (a ∷ more) stopped = ap (λ (m : Node). run c snap m more) (stays c snap 0 n a why stopped) ∙ run-stays n why more stopped

  nothing-staged : (n : Node) → n.tasks ≡ [] → staged c n ≡ None
  unfolding staged
  nothing-staged n none = go n.leaving
    where
      go : (ls : List Leaving) → staged_behind c n ls ≡ None
      go [] = ap (staged_by c n) none
      go (l ∷ ls) = refl

  -- the entry that the node has staged, marked
  abbrev more_of : Bool → Node → List Marked
  more_of by n = option_to_list (option_map (λ (e : Entry). record { entry = e; added = by }) (staged c n))

  -- what was found, and what the run appended
  abbrev sure_of : FoundMarked → Run → List Marked
  sure_of f r = with_or_without f r.with_more ++ marked_by c snap (opened c f r) r.answers

  abbrev asked_last : FoundMarked → Run → Bool
  asked_last f r = is_guards_after false (calls c snap (opened c f r) r.answers)

  abbrev last : FoundMarked → Run → Node
  last f r = run c snap (opened c f r) r.answers

  staged-guard : (f : FoundMarked) (r : Run) → AreGuards (asked_by c snap (opened c f r) r.answers) → (p : ℕ)
      → IsGuardIn c (with_or_without f r.with_more) p → IsGuardIn c (sure_of f r ++ more_of (asked_last f r) (last f r)) p
  staged-guard f r are p guard =
      let found : List Marked = with_or_without f r.with_more in
      let ms : List Marked = marked_by c snap (opened c f r) r.answers in
      goes-or-stops c r.lines found (IsGuardIn c (sure_of f r ++ more_of (asked_last f r) (last f r)) p)
      (λ goes. subst (λ (xs : List Marked). IsGuardIn c xs p) (sym (append_assoc found ms (more_of (asked_last f r) (last f r))))
      (goes-on c r.lines found snap p more_of (staged-after c snap p) r.answers are guard goes))
      (λ why stopped. subst (λ (xs : List Marked). IsGuardIn c xs p)
      (sym (ap (λ (m : Node). sure_of f r ++ more_of (asked_last f r) m) (run-stays (opened c f r) why r.answers stopped)
      ∙ ap (λ (o : Option Entry). sure_of f r ++ option_to_list (option_map (λ (e : Entry). record { entry = e; added = asked_last f r }) o))
      (nothing-staged (opened c f r) (reads-tasks c (at_first (from_start c) r.lines) (entries_in found) refl))
      ∙ append-nil (sure_of f r)))
      (run-guards c r.lines found snap r.answers are p guard))

  left-guards : (f : FoundMarked) (r : Run) → AreGuards (asked_by c snap (opened c f r) r.answers)
      → ((b : Bool) (p : ℕ) → IsGuardIn c (with_or_without f b) p) → (os : List Opening) (b : Bool) (p : ℕ)
      → IsGuardIn c (with_or_without (leaves_marked c snap f r os) b) p
  left-guards f r are guards [] false p = run-guards c r.lines (with_or_without f r.with_more) snap r.answers are p (guards r.with_more p)
  left-guards f r are guards [] true p = staged-guard f r are p (guards r.with_more p)
  left-guards f r are guards (o ∷ os) b p = guards b p

  unmarked : (o : Option Entry) (by : Bool)
      → option_map (λ (m : Marked). m.entry) (option_map (λ (e : Entry). record { entry = e; added = by }) o) ≡ o
  unmarked None by = refl
  unmarked (Some e) by = refl

  -- without the marks it is what a stop leaves
  left-found : (f : FoundMarked) (r : Run) → AreGuards (asked_by c snap (opened c f r) r.answers)
      → ((b : Bool) → FitsFrom c (from_start c).from (plain.with_or_without (found_in f) b))
      → found_in (leaves_marked c snap f r (last f r).opening) ≡ leaves c (found_in f) (last_of c snap (found_in f) r)
  unfolding leaves
  left-found f r are fits = go (last f r).opening
      ∙ ap (λ (es : List Entry). leaves_by c (found_in f) (run c snap (opens c (from_start c) r.lines es) r.answers)
      (run c snap (opens c (from_start c) r.lines es) r.answers).opening) (with-entries f r.with_more)
    where
      kept : (last f r).kept ≡ entries_in (sure_of f r)
      kept = (runs_go_on_as_guards c snap r.lines (with_or_without f r.with_more) r.answers are).kept
          (subst (λ (es : List Entry). FitsFrom c (from_start c).from es) (sym (with-entries f r.with_more)) (fits r.with_more))

      go : (os : List Opening) → found_in (leaves_marked c snap f r os) ≡ leaves_by c (found_in f) (last f r) os
      go [] = (λ i. record { sure = sym kept i; more = unmarked (staged c (last f r)) (asked_last f r) i })
      go (o ∷ os) = refl

  -- ---- lives

  lives-guards : (f : FoundMarked) (rs : List Run) → ((b : Bool) (p : ℕ) → IsGuardIn c (with_or_without f b) p) → AnswerAsGuards c snap f rs
      → (b : Bool) (p : ℕ) → IsGuardIn c (with_or_without (lives_marked c snap f rs) b) p
  unfolding lives_marked
  lives-guards f [] guards are = guards
  lives-guards f (r ∷ rs) guards are = lives-guards (leaves_marked c snap f r (last f r).opening) rs
      (left-guards f r are.0 guards (last f r).opening) are.1

  lives-found : SignsValidly c → (f : FoundMarked) (rs : List Run)
      → ((b : Bool) → FitsFrom c (from_start c).from (plain.with_or_without (found_in f) b)) → AnswerAsGuards c snap f rs
      → found_in (lives_marked c snap f rs) ≡ lives c snap (found_in f) rs
  unfolding lives_marked lives
  lives-found valid f [] fits are = refl
  lives-found valid f (r ∷ rs) fits are =
      let one = left-found f r are.0 fits in
      let next : FoundMarked = leaves_marked c snap f r (last f r).opening in
      lives-found valid next rs
      (λ b. subst (λ (g : Found). FitsFrom c (from_start c).from (plain.with_or_without g b)) (sym one)
      ((lives_on c snap (found_in f) (r ∷ []) valid fits).fits b)) are.1
      ∙ ap (λ (g : Found). lives c snap g rs) one

pub lives_are_guards : LivesAreGuards
unfolding given_from
lives_are_guards c snap rs are = record {
  found = λ valid. lives-found c snap valid fresh rs (λ b. none-fits b) are;
  guards = lives-guards c snap fresh rs (λ b p. none-guards b p) are;
}
  where
    none-fits : (b : Bool) → FitsFrom c (from_start c).from (plain.with_or_without (found_in fresh) b)
    none-fits true = tt
    none-fits false = tt

    none-guards : (b : Bool) (p : ℕ) → IsGuardIn c (with_or_without fresh b) p
    none-guards true p = tt
    none-guards false p = tt

-- ---- families

pub nodes_are_guards : NodesAreGuards
nodes_are_guards s hosts are = record {
  guards = mem-All (IsGuarded s) (map guard_in hosts) (λ g m. one g (map-mem guard_in hosts g m));
  family = ap (λ (cs : List Correct). record { setting = s; correct = cs }) (same hosts);
}
  where
    one : (g : Guard) → (h : Hosted) × Mem h hosts × (guard_in h ≡ g) → IsGuarded s g
    one g of =
        let is = All-mem (λ (h : Hosted). (h.cast.setting ≡ s) × IsGuardIn h.cast h.found h.process) hosts of.0 are of.1 in
        subst (IsGuarded s) of.2 (subst (λ (t : Setting). IsGuarded t (guard_in of.0)) is.0 is.1)

    each : (h : Hosted) → correct_of (guard_in h) ≡ plain.correct_of (ran_in h).0 (ran_in h).1
    each h = ap (λ (ts : List Turn). record { me = h.process; batch_limit = h.cast.batch_limit; turns = ts })
        (turns-kept h.cast.setting (start h.cast.setting h.process h.cast.batch_limit) (marks_of h.process h.found)
        ∙ ap (turns_from h.cast.setting (start h.cast.setting h.process h.cast.batch_limit)) (own-entries h.process h.found))

    same : (hs : List Hosted) → map correct_of (map guard_in hs) ≡ map (λ h. plain.correct_of h.0 h.1) (map ran_in hs)
    same [] = refl
    same (h ∷ hs) = (λ i. each h i ∷ same hs i)
