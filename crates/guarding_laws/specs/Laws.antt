-- That the processes of a node whose service is a guard's are guards.
-- Names here (* for this crate alone):
--   one run: IsGuardIn*, GoesOnAsGuards*, RunsGoOnAsGuards*, AreOfGuards
--   a node that is stopped and opened again: AnswerAsGuards*, fresh*, AreFoundAsGuards*, LivesAreGuards*
--   families: Hosted*, guard_in*, ran_in*, AreGuardsOfNodes*, NodesAreGuards*
use Rattle.std.specs.Prelude.{◌≡◌, ℕ, Bool, List, [], ◌∷◌, ◌++◌, map, All, None}
use Rattle.group_defs.specs.Process.{Setting}
use Rattle.guard_defs.specs.Guarding.{Guard, IsGuarded, family_of}
pub use Rattle.guard_service.specs.Answers.{AreGuards}
use Rattle.node_defs.specs.Casts.{Cast, from_start}
use Rattle.node_defs.specs.Lives as lives
use Rattle.node_defs.specs.Lives.{FitsFrom, Ran, Run, SignsValidly, restarted}
use Rattle.node_defs.specs.Nodes.{Answer, Snapper, opens, run}
use Rattle.node_traces.specs.Service.{Asked, asked_by}
use Rattle.guarding_laws.specs.Marks.{Marked, entries_in, marked_by, guard_of, FoundMarked, with_or_without, found_in, opened, leaves_marked, lives_marked}

-- ---- one run

-- the process of the node is a guard from its start on: the guard added only what it may
abbrev pub IsGuardIn : Cast → List Marked → ℕ → Type 0
IsGuardIn c ms p = IsGuarded c.setting (guard_of c p ms)

-- A run found these entries in the journal. What it holds then is these, and those that the run appended, if the processes may have written
-- what was found; and a process that was a guard up to then is one with the turns of the run.
pub record GoesOnAsGuards (c : Cast) (snap : Snapper) (lines : ℕ) (found : List Marked) (answers : List Answer) : Type 0 where
  pub kept : FitsFrom c (from_start c).from (entries_in found)
      → (run c snap (opens c (from_start c) lines (entries_in found)) answers).kept
      ≡ entries_in (found ++ marked_by c snap (opens c (from_start c) lines (entries_in found)) answers)
  pub guards : (p : ℕ) → IsGuardIn c found p
      → IsGuardIn c (found ++ marked_by c snap (opens c (from_start c) lines (entries_in found)) answers) p

-- So it is where the service answered each call of the run as a guard does.
abbrev pub RunsGoOnAsGuards : Type 0
RunsGoOnAsGuards = (c : Cast) (snap : Snapper) (lines : ℕ) (found : List Marked) (answers : List Answer)
    → AreGuards (asked_by c snap (opens c (from_start c) lines (entries_in found)) answers) → GoesOnAsGuards c snap lines found answers

-- All that the service was asked in some run, with its answers: each is a guard's. So the processes of the node whose run it is are guards.
pub record AreOfGuards (asked : List Asked) : Type 0 where
  pub answered : AreGuards asked
  pub guards : (c : Cast) (snap : Snapper) (lines : ℕ) (found : List Marked) (answers : List Answer)
      → asked ≡ asked_by c snap (opens c (from_start c) lines (entries_in found)) answers → GoesOnAsGuards c snap lines found answers

-- ---- a node that is stopped and opened again

-- the service answered each call of these runs as a guard does
abbrev pub AnswerAsGuards : Cast → Snapper → FoundMarked → List Run → Type 0
AnswerAsGuards c snap f [] = Unit {0}
AnswerAsGuards c snap f (r ∷ rs) = AreGuards (asked_by c snap (opened c f r) r.answers)
    × AnswerAsGuards c snap (leaves_marked c snap f r (run c snap (opened c f r) r.answers).opening) rs

-- in a new journal
abbrev pub fresh : FoundMarked
fresh = record { sure = []; more = None }

-- What a new journal's node is found to have after runs: the entries are those of its life, where its keys sign validly; and each process is a
-- guard by them, with the one more or without it.
pub record AreFoundAsGuards (c : Cast) (snap : Snapper) (rs : List Run) : Type 0 where
  pub found : SignsValidly c → found_in (lives_marked c snap fresh rs) ≡ lives.lives c snap lives.fresh rs
  pub guards : (b : Bool) (p : ℕ) → IsGuardIn c (with_or_without (lives_marked c snap fresh rs) b) p

-- So it is, wherever the runs were stopped, where the service answered each call as a guard does.
abbrev pub LivesAreGuards : Type 0
LivesAreGuards = (c : Cast) (snap : Snapper) (rs : List Run) → AnswerAsGuards c snap fresh rs → AreFoundAsGuards c snap rs

-- ---- families

-- a process of a node, with what its journal has
pub record Hosted : Type 0 where
  pub cast : Cast
  pub found : List Marked
  pub process : ℕ

-- it as a guard, and as a process of a node that was stopped and opened again
abbrev pub guard_in : Hosted → Guard
guard_in h = guard_of h.cast h.process h.found

abbrev pub ran_in : Hosted → Ran × ℕ
ran_in h = (record { cast = h.cast; entries = entries_in h.found }, h.process)

-- They are guards, and their family is that of nodes which were stopped and opened again: what is said of the one holds of the other.
pub record AreGuardsOfNodes (s : Setting) (hosts : List Hosted) : Type 0 where
  pub guards : All (IsGuarded s) (map guard_in hosts)
  pub family : family_of s (map guard_in hosts) ≡ restarted s (map ran_in hosts)

-- where they share a setting, and each is a guard by what its journal has
abbrev pub NodesAreGuards : Type 0
NodesAreGuards = (s : Setting) (hosts : List Hosted) → All (λ h. (h.cast.setting ≡ s) × IsGuardIn h.cast h.found h.process) hosts
    → AreGuardsOfNodes s hosts
