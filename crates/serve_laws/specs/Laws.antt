-- The laws of the store, of a node that serves.
-- Names here (* for this crate alone):
--   what a run answers: SaysReply*, SaysState*, RunIsServed*, RunsTell*
--   a run of a correct process: AreJoinings*, IsOneOf*, IsServedRun*, RunsAreServed*
--   by name: RepliesAreMade*, StatesAreMade*, RepliesAreAnswers*, RepliesOnce*, StatesOnce*, StoresHold*, WroteIt*, IsWritten*,
--     AcceptedAreAnswers*
--   of a history: StoreLaws*, ServesStore, HistoriesServe*
use Rattle.std.specs.Prelude.{◌≡◌, ℕ, List, [], ◌∷◌, ◌++◌, All, Contains, IsTrue, Option, Some, None}
use Rattle.signature_defs.specs.Schemes.{is_valid}
use Rattle.kit_defs.specs.Kits.{Host, IsKit}
use Rattle.group_defs.specs.Views.{View}
use Rattle.group_defs.specs.Process.{Delivered, Process}
use Rattle.group_defs.specs.Accounts.{IsPrefixOf, group_of}
use Rattle.group_defs.specs.Events.{Delivers, Note}
use Rattle.group_defs.specs.Family.{accounts, end_of, ends}
use Rattle.journal_defs.specs.Entries.{Entry}
use Rattle.node_defs.specs.Casts.{setting_of}
use Rattle.node_defs.specs.Nodes.{NotesOf, Words}
use Rattle.node_traces.specs.Service.{Asked}
use Rattle.store_defs.specs.Holding.{payloads_of, store_below}
use Rattle.store_defs.specs.Laws.{IsAnswerOf, IsInstalled, MadeReply, MadeState, ServicePremises, Services, accepted_of}
use Rattle.store_defs.specs.Records.{Reply, StateRecord, reply_body, state_body}
use Rattle.store_defs.specs.Serving.{Given, ReplyWord, Signed, StateWord, ReportedReply}
use Rattle.store_defs.specs.Services.{place_of}
use Rattle.store_defs.specs.Stores.{Store, store_after}
use Rattle.store_defs.specs.Votes.{Content, content_of}
use Rattle.store_defs.specs.Votes as votes
use Rattle.store_defs.specs.Words.{Give, State, given_text, reported_text}
use Rattle.following_laws.specs.Runs as runs
use Rattle.following_laws.specs.Runs.{TakesWord, ServedRun, Step}
use Rattle.store_service.specs.Service.{AreServed}
use Rattle.serve_laws.specs.Runs.{IsHostIn, NodeRun, at, first, history, process_of, steps, word_in}
use Rattle.serve_laws.specs.Reported.{Gave, Replied, WasSaid, WritesOfNote, WritesToLine}

-- ---- what a run answers

-- the text is the line of a reply word, and a reply that it has was signed in the run
pub record SaysReply (r : NodeRun) (h : Host) (text : List ℕ) : Type 0 where
  pub word : ReplyWord
  pub text_is : text ≡ reported_text h.process (ReportedReply word)
  pub replied : (reply : Reply) → word ≡ Signed reply → (leaf : ℕ) × Replied r h leaf reply

-- the text is the line of a state word, and a state that it has was signed in the run
pub record SaysState (r : NodeRun) (h : Host) (text : List ℕ) : Type 0 where
  pub word : StateWord
  pub text_is : text ≡ given_text h.process word
  pub gave : (given : StateRecord) → word ≡ Given given → Gave r h given

-- For a process that a node hosts: what is said of each note that its turns let out, and to each line of the script, is what its server
-- writes, in the run of the server that begins as the node does. So after each message it is a reply, or that there is none.
pub record RunIsServed (r : NodeRun) (h : Host) : Type 0 where
  pub notes : (note : Note) (text : List ℕ) → WasSaid r (NotesOf h.process note) text → WritesOfNote r h note text
  pub lines : (line text : List ℕ) → WasSaid r (Words h.process line) text → WritesToLine r h line text
  pub replies : (view : ℕ) (d : Delivered) (text : List ℕ) → WasSaid r (NotesOf h.process (Delivers view d)) text → SaysReply r h text
  pub states : (line text : List ℕ) → word_in r.kit line ≡ Some Give → WasSaid r (Words h.process line) text → SaysState r h text

-- this holds of each hosted process, where the service of the node has answered as the servers of a store
abbrev pub RunsTell : Type 0
RunsTell = (r : NodeRun) (h : Host) → IsKit r.kit → IsHostIn r h → AreServed None (history r) → RunIsServed r h

-- ---- a run of a correct process

-- what was offered to the process in the run is among its joinings
abbrev pub AreJoinings : Services → NodeRun → Host → Type 0
AreJoinings sv r h = (front : List Step) (bytes : List ℕ) → IsPrefixOf (front ++ TakesWord (State bytes) ∷ []) (steps r h)
    → let m = at r h (front ++ TakesWord (State bytes) ∷ []) in
    Contains (sv.joinings h.process) (record { view = m.process.pool.view; offered = m.offered })

-- The family of the kit's group has the process of this host as a correct one, whose turns are those of the journal, which goes on with these
-- entries after the run; its joinings have what was offered to it in the run; and the service of the node answered as the servers of a store.
pub record IsOneOf (sv : Services) (r : NodeRun) (h : Host) (later : List Entry) : Type 0 where
  pub kit : IsKit r.kit
  pub host : IsHostIn r h
  pub served : AreServed None (history r)
  pub setting : sv.family.setting ≡ setting_of r.kit
  pub correct : Contains sv.family.correct (process_of r h later)
  pub joinings : AreJoinings sv r h

-- its steps in the run are a run of it that serves, which begins as the node has opened
pub record IsServedRun (sv : Services) (r : NodeRun) (h : Host) (later : List Entry) : Type 0 where
  pub run : ServedRun sv (process_of r h later) (place_of r.kit h) (steps r h)
  pub begins : runs.first run ≡ first r h

abbrev pub RunsAreServed : Type 0
RunsAreServed = (sv : Services) (r : NodeRun) (h : Host) (later : List Entry) → IsOneOf sv r h later → IsServedRun sv r h later

-- ---- by name

-- a reply of a run is one that its process made, and a state one that it gave
abbrev pub RepliesAreMade : Type 0
RepliesAreMade = (sv : Services) (r : NodeRun) (h : Host) (later : List Entry) (leaf : ℕ) (reply : Reply) → IsOneOf sv r h later
    → Replied r h leaf reply → MadeReply sv (end_of sv.family.setting (process_of r h later)) leaf reply

abbrev pub StatesAreMade : Type 0
StatesAreMade = (sv : Services) (r : NodeRun) (h : Host) (later : List Entry) (given : StateRecord) → IsOneOf sv r h later
    → Gave r h given → MadeState sv (end_of sv.family.setting (process_of r h later)) given

-- a reply is the store's answer to its payload, at a place of the group's one sequence
abbrev pub RepliesAreAnswers : Type 0
RepliesAreAnswers = (sv : Services) (r : NodeRun) (h : Host) (later : List Entry) (leaf : ℕ) (reply : Reply) → ServicePremises sv
    → IsOneOf sv r h later → Replied r h leaf reply → IsAnswerOf (accounts sv.family) reply.view reply.payload (content_of reply)

-- Two replies of a process that are signed with one leaf have one body: in one run, or in two, as after a restart.
abbrev pub RepliesOnce : Type 0
RepliesOnce = (sv : Services) (r r' : NodeRun) (h h' : Host) (later later' : List Entry) (group : List ℕ) (leaf : ℕ) (reply reply' : Reply)
    → ServicePremises sv → IsOneOf sv r h later → IsOneOf sv r' h' later' → h.process ≡ h'.process
    → Replied r h leaf reply → Replied r' h' leaf reply' → reply_body group reply ≡ reply_body group reply'

-- and two states of one view, whose number is the leaf
abbrev pub StatesOnce : Type 0
StatesOnce = (sv : Services) (r r' : NodeRun) (h h' : Host) (later later' : List Entry) (group : List ℕ) (given given' : StateRecord)
    → ServicePremises sv → IsOneOf sv r h later → IsOneOf sv r' h' later' → h.process ≡ h'.process
    → Gave r h given → Gave r' h' given' → given.view ≡ given'.view → state_body group given ≡ state_body group given'

-- At each moment of a run, where the server of the process has a store, this is the store after the group's whole sequences of the views below
-- its own, and after what the process has delivered in its view so far. The same holds for a joiner, from the state on that it took.
abbrev pub StoresHold : Type 0
StoresHold = (sv : Services) (r : NodeRun) (h : Host) (later : List Entry) (front rest : List Step) (store : Store) → ServicePremises sv
    → IsOneOf sv r h later → steps r h ≡ front ++ rest → (at r h front).server.store ≡ Some store
    → store ≡ store_after (store_below (group_of (accounts sv.family)) (at r h front).process.pool.view.number)
    (payloads_of (at r h front).process.delivered)

-- the reply was written in some run of this process
pub record WroteIt (sv : Services) (p : Process) (reply : Reply) : Type 0 where
  pub run : NodeRun
  pub host : Host
  pub later : List Entry
  pub one : IsOneOf sv run host later
  pub process : p ≡ end_of sv.family.setting (process_of run host later)
  pub leaf : ℕ
  pub replied : Replied run host leaf reply

-- where the reply is valid under the key of its signer and that is correct, it was written in some run of the signer
abbrev pub IsWritten : Services → (ℕ → Option (List ℕ)) → Reply → Type 0
IsWritten sv keys reply = IsTrue (votes.is_signed sv.family.setting.valid sv.family.setting.group (keys reply.signer) reply)
    → All (λ p. p.me ≡ reply.signer → WroteIt sv p reply) (ends sv.family)

-- so what a client accepts is the store's answer to its payload, at a place of the group's one sequence
abbrev pub AcceptedAreAnswers : Type 0
AcceptedAreAnswers = (sv : Services) (keys : ℕ → Option (List ℕ)) (v : View) (payload : List ℕ) (replies : List Reply) (c : Content)
    → ServicePremises sv → IsInstalled sv.family v → All (IsWritten sv keys) replies
    → accepted_of sv.family.setting.valid sv.family.setting.group keys v payload replies ≡ Some c
    → IsAnswerOf (accounts sv.family) v.number payload c

-- ---- of a history

-- What holds of a run by the laws of the store, where its process is a correct one of a family that serves.
pub record StoreLaws (sv : Services) (r : NodeRun) (h : Host) (later : List Entry) : Type 0 where
  pub served_run : IsServedRun sv r h later
  pub reply_is_answer : (leaf : ℕ) (reply : Reply) → Replied r h leaf reply
      → IsAnswerOf (accounts sv.family) reply.view reply.payload (content_of reply)
  pub one_reply_per_leaf : (r' : NodeRun) (h' : Host) (later' : List Entry) (group : List ℕ) (leaf : ℕ) (reply reply' : Reply)
      → IsOneOf sv r' h' later' → h.process ≡ h'.process → Replied r h leaf reply → Replied r' h' leaf reply'
      → reply_body group reply ≡ reply_body group reply'
  pub one_state_per_leaf : (r' : NodeRun) (h' : Host) (later' : List Entry) (group : List ℕ) (given given' : StateRecord)
      → IsOneOf sv r' h' later' → h.process ≡ h'.process → Gave r h given → Gave r' h' given' → given.view ≡ given'.view
      → state_body group given ≡ state_body group given'
  pub joiners_hold_the_store : (front rest : List Step) (store : Store) → steps r h ≡ front ++ rest → (at r h front).server.store ≡ Some store
      → store ≡ store_after (store_below (group_of (accounts sv.family)) (at r h front).process.pool.view.number)
      (payloads_of (at r h front).process.delivered)

-- A history of the servers of a store. In a run of a node that has this history, what was said for each hosted process is what its server
-- writes; and where the process is a correct one of a family, the laws of the store hold of it.
pub record ServesStore (asked : List Asked) : Type 0 where
  pub served : AreServed None asked
  pub tells : (r : NodeRun) (h : Host) → history r ≡ asked → IsKit r.kit → IsHostIn r h → RunIsServed r h
  pub laws : (sv : Services) (r : NodeRun) (h : Host) (later : List Entry) → history r ≡ asked → ServicePremises sv → IsOneOf sv r h later
      → StoreLaws sv r h later

-- each history that was answered as by servers is one
abbrev pub HistoriesServe : Type 0
HistoriesServe = (asked : List Asked) → AreServed None asked → ServesStore asked
