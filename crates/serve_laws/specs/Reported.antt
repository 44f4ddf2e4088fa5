-- What the service of a run answered, as words of the servers of its processes.
use Rattle.std.specs.Prelude.{◌≡◌, ℕ, List, [], ◌∷◌, ◌++◌, Some}
use Rattle.signature_defs.specs.Schemes.{is_valid}
use Rattle.kit_defs.specs.Kits.{Host}
use Rattle.group_defs.specs.Process.{Delivered}
use Rattle.group_defs.specs.Events.{Delivers, Note, Turn, outcome}
use Rattle.node_defs.specs.Casts.{setting_of}
use Rattle.node_defs.specs.Nodes.{Answer, Call, Said, NotesOf, Words, call_of}
use Rattle.store_defs.specs.Holding.{payloads_of}
use Rattle.store_defs.specs.Records.{Reply, StateRecord}
use Rattle.store_defs.specs.Serving.{Given, Server, Signed, ReportedReply, after_notes}
use Rattle.store_defs.specs.Services.{noted_text, place_of, worded}
use Rattle.store_defs.specs.Words.{Give, Word, given_text, reported_text}
use Rattle.following_laws.specs.Runs.{Happens, TakesWord, Step, WritesReply, WritesState}
use Rattle.serve_laws.specs.Runs.{NodeRun, after_some, at, cast, first, steps, word_in}

-- the node made this call in the run, and its service said this text
pub record WasSaid (r : NodeRun) (call : Call) (text : List ℕ) : Type 0 where
  pub front : List Answer
  pub sends : List (ℕ × List ℕ)
  pub rest : List Answer
  pub answers_are : r.answers ≡ front ++ Said text sends ∷ rest
  pub call_is : call_of (cast r) (after_some r front) ≡ call

-- ---- notes and words

-- The text is what the server of the process writes after this note: it is one of a turn of the process, and the server has been given the
-- notes of this turn before it, in order, after all earlier steps of the run.
pub record WritesOfNote (r : NodeRun) (h : Host) (note : Note) (text : List ℕ) : Type 0 where
  pub before : List Step
  pub turn : Turn
  pub behind : List Step
  pub steps_are : steps r h ≡ before ++ Happens turn ∷ behind
  pub reported : List Note
  pub others : List Note
  pub notes_are : (outcome (setting_of r.kit) (at r h before).process turn).notes ≡ reported ++ note ∷ others
  pub text_is : text ≡ noted_text (place_of r.kit h) (after_notes (place_of r.kit h) (at r h before).server reported) note

-- The text is what the server of the process writes to the word that this line has, after all earlier steps of the run.
pub record WritesToLine (r : NodeRun) (h : Host) (line text : List ℕ) : Type 0 where
  pub before : List Step
  pub word : Word
  pub behind : List Step
  pub steps_are : steps r h ≡ before ++ TakesWord word ∷ behind
  pub word_is : word_in r.kit line ≡ Some word
  pub text_is : text ≡ (worded (is_valid r.kit.scheme) (place_of r.kit h) (payloads_of (at r h before).process.delivered)
      (at r h before).server word).0

-- ---- replies and states

-- in the run a message of the process was answered with this reply, signed with the leaf of this number
pub record Replied (r : NodeRun) (h : Host) (leaf : ℕ) (reply : Reply) : Type 0 where
  pub view : ℕ
  pub delivered : Delivered
  pub said : WasSaid r (NotesOf h.process (Delivers view delivered)) (reported_text h.process (ReportedReply (Signed reply)))
  pub writes : WritesReply (setting_of r.kit) (place_of r.kit h) (first r h) (steps r h) leaf reply

-- in the run a `give` was answered with this state
pub record Gave (r : NodeRun) (h : Host) (given : StateRecord) : Type 0 where
  pub line : List ℕ
  pub gives : word_in r.kit line ≡ Some Give
  pub said : WasSaid r (Words h.process line) (given_text h.process (Given given))
  pub writes : WritesState (setting_of r.kit) (place_of r.kit h) (first r h) (steps r h) given
