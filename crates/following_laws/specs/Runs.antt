-- A run of a server: the events of its process, each reported to it, and the words that a script has for it.
-- Names here (* for this crate alone):
--   what happens in a run: Step, turns_in, Moment, begin, with_word*, after_step, reached
--   what it signs: WritesReply, WritesState
--   runs of a correct process: ServedRun, first*, RunReplies*, RunGives*, RunsReplyOnce*, RunsGiveOnce*, RunHolds*
use Rattle.std.specs.Prelude.{◌≡◌, ℕ, nat_lt, if◌then◌else◌, List, [], ◌∷◌, ◌++◌, length, Contains, Some}
use Rattle.group_defs.specs.Process.{Setting, Delivered, Process, start}
use Rattle.group_defs.specs.Accounts.{IsPrefixOf, group_of}
use Rattle.group_defs.specs.Family.{Correct, accounts, end_of}
use Rattle.group_defs.specs.Events.{Note, Delivers, Turn, after, outcome, run}
use Rattle.store_defs.specs.Records.{Reply, StateRecord, reply_body, state_body}
use Rattle.store_defs.specs.Stores.{Store, store_after}
use Rattle.store_defs.specs.Holding.{payloads_of, store_below}
use Rattle.store_defs.specs.Serving.{Given, Place, Server, Signed, ReportedReply, after_notes, server_of, state_given, reported_of}
use Rattle.store_defs.specs.Words.{Word, Give, State, StateKey}
use Rattle.store_defs.specs.Services.{worded}
use Rattle.store_defs.specs.Laws.{MadeReply, MadeState, ServicePremises, Services}
use Rattle.following_laws.specs.Laws.{Offered, with_offer}

-- ---- what happens in a run

-- an event of the process, or a word to its server
pub data Step : Type 0 where
  Happens : (turn : Turn) → Step
  TakesWord : (word : Word) → Step

-- the events among the steps, in order
abbrev pub turns_in : List Step → List Turn
turns_in [] = []
turns_in (Happens t ∷ steps) = t ∷ turns_in steps
turns_in (TakesWord word ∷ steps) = turns_in steps

-- a process that serves, its server, and the records that were offered to it in its view
pub record Moment : Type 0 where
  pub process : Process
  pub server : Server
  pub offered : List Offered

-- as a run begins with this process
abbrev pub begin : Process → Moment
begin p = record { process = p; server = server_of p; offered = [] }

-- the records that were offered, with those of a word
abbrev pub with_word : Place → Moment → Word → List Offered
with_word q m Give = m.offered
with_word q m (State bytes) = with_offer q m.server bytes m.offered
with_word q m (StateKey p key) = m.offered

-- After an event the server has been given its notes, and nothing was offered yet in a view that it installs. A word changes the server,
-- the process not.
unfoldable pub after_step : Setting → Place → Moment → Step → Moment
after_step setting q m (Happens t) =
    let p = after setting m.process t in
    record {
      process = p;
      server = after_notes q m.server (outcome setting m.process t).notes;
      offered = if nat_lt (length m.process.left) (length p.left) then [] else m.offered;
    }
after_step setting q m (TakesWord word) = record m {
  server = (worded setting.valid q (payloads_of m.process.delivered) m.server word).1;
  offered = with_word q m word;
}

-- after these steps, one after the other
unfoldable pub reached : Setting → Place → Moment → List Step → Moment
reached setting q m [] = m
reached setting q m (step ∷ steps) = reached setting q (after_step setting q m step) steps

-- ---- what it signs

-- in the run the server writes this reply after a message, signed with the leaf of this number
pub record WritesReply (setting : Setting) (q : Place) (m : Moment) (steps : List Step) (leaf : ℕ) (r : Reply) : Type 0 where
  pub before : List Step
  pub turn : Turn
  pub behind : List Step
  pub steps_are : steps ≡ before ++ Happens turn ∷ behind
  pub front : List Note
  pub view : ℕ
  pub delivered : Delivered
  pub rest : List Note
  pub notes_are : (outcome setting (reached setting q m before).process turn).notes ≡ front ++ Delivers view delivered ∷ rest
  pub reported : reported_of q (after_notes q (reached setting q m before).server front) (Delivers view delivered) ≡ ReportedReply (Signed r)
  pub leaf_is : leaf ≡ (after_notes q (reached setting q m before).server front).delivered

-- in the run the server writes this state after a `give`
pub record WritesState (setting : Setting) (q : Place) (m : Moment) (steps : List Step) (r : StateRecord) : Type 0 where
  pub before : List Step
  pub behind : List Step
  pub steps_are : steps ≡ before ++ TakesWord Give ∷ behind
  pub given : state_given q (reached setting q m before).server ≡ Given r

-- ---- runs of a correct process

-- Some of the turns of a correct process are a run that serves: it begins with the process as its earlier turns left it, and after each
-- state that is offered the records of the view are one of the process's joinings.
pub record ServedRun (sv : Services) (c : Correct) (q : Place) (steps : List Step) : Type 0 where
  pub me : q.me ≡ c.me
  pub group : q.group ≡ sv.family.setting.group
  pub earlier : List Turn
  pub later : List Turn
  pub turns : c.turns ≡ earlier ++ (turns_in steps ++ later)
  pub joinings : (front : List Step) (bytes : List ℕ) → IsPrefixOf (front ++ TakesWord (State bytes) ∷ []) steps
      → let m = reached sv.family.setting q (begin (run sv.family.setting (start sv.family.setting c.me c.batch_limit) earlier))
      (front ++ TakesWord (State bytes) ∷ []) in
      Contains (sv.joinings c.me) (record { view = m.process.pool.view; offered = m.offered })

-- where it begins
abbrev pub first : {sv : Services} {c : Correct} {q : Place} {steps : List Step} → ServedRun sv c q steps → Moment
first {sv} {c} it = begin (run sv.family.setting (start sv.family.setting c.me c.batch_limit) it.earlier)

-- Each reply that a server writes in a run is one that its process made, over its store, with the leaf whose number is how many messages it
-- delivered before
abbrev pub RunReplies : Type 0
RunReplies = (sv : Services) (c : Correct) (q : Place) (steps : List Step) (it : ServedRun sv c q steps) (leaf : ℕ) (r : Reply)
    → sv.family.setting.genesis.number ≡ 0 → WritesReply sv.family.setting q (first it) steps leaf r
    → MadeReply sv (end_of sv.family.setting c) leaf r

-- and each state that it writes is one that its process made
abbrev pub RunGives : Type 0
RunGives = (sv : Services) (c : Correct) (q : Place) (steps : List Step) (it : ServedRun sv c q steps) (r : StateRecord)
    → sv.family.setting.genesis.number ≡ 0 → WritesState sv.family.setting q (first it) steps r
    → MadeState sv (end_of sv.family.setting c) r

-- so two replies of a correct process that are signed with one leaf, in one run or in two, have one body
abbrev pub RunsReplyOnce : Type 0
RunsReplyOnce = (sv : Services) (c : Correct) (q q' : Place) (steps steps' : List Step) (it : ServedRun sv c q steps)
    (that : ServedRun sv c q' steps') (group : List ℕ) (leaf : ℕ) (r r' : Reply) → ServicePremises sv → Contains sv.family.correct c
    → WritesReply sv.family.setting q (first it) steps leaf r → WritesReply sv.family.setting q' (first that) steps' leaf r'
    → reply_body group r ≡ reply_body group r'

-- and two states of one view, whose number is the leaf
abbrev pub RunsGiveOnce : Type 0
RunsGiveOnce = (sv : Services) (c : Correct) (q q' : Place) (steps steps' : List Step) (it : ServedRun sv c q steps)
    (that : ServedRun sv c q' steps') (group : List ℕ) (r r' : StateRecord) → ServicePremises sv → Contains sv.family.correct c
    → WritesState sv.family.setting q (first it) steps r → WritesState sv.family.setting q' (first that) steps' r' → r.view ≡ r'.view
    → state_body group r ≡ state_body group r'

-- And at each moment of a run, where its server has a store, this is the store after the group's whole sequences of the views below its own, and
-- after what the process has delivered in its view so far.
abbrev pub RunHolds : Type 0
RunHolds = (sv : Services) (c : Correct) (q : Place) (steps front rest : List Step) (it : ServedRun sv c q steps) (t : Store) → ServicePremises sv
    → Contains sv.family.correct c → steps ≡ front ++ rest
    → let m = reached sv.family.setting q (first it) front in
    m.server.store ≡ Some t
    → t ≡ store_after (store_below (group_of (accounts sv.family)) m.process.pool.view.number) (payloads_of m.process.delivered)
