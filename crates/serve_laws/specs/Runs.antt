-- A run of a node that serves a store, as its hosted processes and their servers go through it.
-- Names here (* for this crate alone):
--   a run: NodeRun*, cast*, opened*, after_some*, last*, history*, IsHostIn*
--   what happens to a process and its server: word_in*, turns_by*, words_by*, steps_by*, steps_in*, steps*, first*, at*
--   the process of a journal: turns_of*, process_of*
use Rattle.std.specs.Prelude.{◌≡◌, ℕ, ◌==◌, if◌then◌else◌, List, [], ◌∷◌, ◌++◌, map, Option, Some}
use Rattle.std.specs.Option.{option_to_list}
use Rattle.text_defs.specs.Words.{words_of}
use Rattle.kit_defs.specs.Kits.{Host, Kit, roster_of}
use Rattle.group_defs.specs.Process.{Process, start}
use Rattle.group_defs.specs.Events.{Turn}
use Rattle.group_defs.specs.Family.{Correct}
use Rattle.journal_defs.specs.declared.Version.{Version}
use Rattle.journal_defs.specs.Entries.{Entry}
use Rattle.node_defs.specs.Casts.{Cast, cast_of, entries_of, from_start, host_of, kept_turn, setting_of, turns_from}
use Rattle.node_defs.specs.Lives.{Ran, correct_of}
use Rattle.node_defs.specs.Nodes.{Answer, Appends, Call, Done, Node, Said, Snapper, Words, answered, call_of, opens, run}
use Rattle.node_traces.specs.Service.{Asked, asked_by}
use Rattle.store_defs.specs.Serving.{Place}
use Rattle.store_defs.specs.Services.{behind_first, place_of}
use Rattle.store_defs.specs.Words.{Word, word_by}
use Rattle.following_laws.specs.Runs.{Happens, Moment, TakesWord, Step, begin, reached}

-- ---- a run

-- A run of the node of a kit: the kind of its journal, how many lines the kit has, the entries that the journal had, how snapshots are made,
-- and the answers to the node's calls.
pub record NodeRun : Type 0 where
  pub kit : Kit
  pub version : Version
  pub lines : ℕ
  pub found : List Entry
  pub snap : Snapper
  pub answers : List Answer

abbrev pub cast : NodeRun → Cast
cast r = cast_of r.kit r.version

-- the node as it is opened
abbrev pub opened : NodeRun → Node
opened r = opens (cast r) (from_start (cast r)) r.lines r.found

-- after these of the answers
abbrev pub after_some : NodeRun → List Answer → Node
after_some r front = run (cast r) r.snap (opened r) front

-- and after all of them
abbrev pub last : NodeRun → Node
last r = after_some r r.answers

-- what its service was asked, with the service's answers
abbrev pub history : NodeRun → List Asked
history r = asked_by (cast r) r.snap (opened r) r.answers

-- the kit hosts a process, and this is its host
abbrev pub IsHostIn : NodeRun → Host → Type 0
IsHostIn r h = host_of r.kit h.process ≡ Some h

-- ---- what happens to a process and its server

-- the word that a line has for the server of its process
abbrev pub word_in : Kit → List ℕ → Option Word
word_in kit line = word_by kit.scheme (roster_of kit.keys) (behind_first (words_of line))

-- a turn of process p, which is this now, where the call appends its entry
abbrev pub turns_by : ℕ → Process → Call → List Step
turns_by p now (Appends e) = if e.process == p then Happens (kept_turn now e) ∷ [] else []
turns_by p now _ = []

-- a word to its server, where the call hands in the line
abbrev pub words_by : Kit → ℕ → Call → List Step
words_by kit p (Words q line) = if q == p then map TakesWord (option_to_list (word_in kit line)) else []
words_by kit p _ = []

-- a turn has happened once its entry is in the journal for good, and a word is said once its line has an answer
abbrev pub steps_by : Kit → ℕ → Process → Call → Answer → List Step
steps_by kit p now call Done = turns_by p now call
steps_by kit p now call (Said text sends) = words_by kit p call
steps_by kit p now call _ = []

-- the steps of process p in these answers, one after the other
unfoldable pub steps_in : Kit → Cast → Snapper → ℕ → Node → List Answer → List Step
steps_in kit c snap p n [] = []
steps_in kit c snap p n (a ∷ more) = steps_by kit p (n.now p) (call_of c n) a ++ steps_in kit c snap p (answered c snap n a) more

-- those of a host's process in the run
abbrev pub steps : NodeRun → Host → List Step
steps r h = steps_in r.kit (cast r) r.snap h.process (opened r) r.answers

-- the process and its server as the run begins, and after these steps
abbrev pub first : NodeRun → Host → Moment
first r h = begin ((opened r).now h.process)

abbrev pub at : NodeRun → Host → List Step → Moment
at r h front = reached (setting_of r.kit) (place_of r.kit h) (first r h) front

-- ---- the process of a journal

-- the turns of a host's process that these entries keep
abbrev pub turns_of : NodeRun → Host → List Entry → List Turn
turns_of r h es = turns_from (setting_of r.kit) (start (setting_of r.kit) h.process (cast r).batch_limit) (entries_of h.process es)

-- the process of this host, where the journal goes on with these entries after the run
abbrev pub process_of : NodeRun → Host → List Entry → Correct
process_of r h later = correct_of (record { cast = cast r; entries = (last r).kept ++ later }) h.process
