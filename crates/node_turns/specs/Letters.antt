-- The letters of a turn: each a frame and a process that it goes to.
use Rattle.std.specs.Prelude.{ℕ, ◌≤◌, List, [], length, map, Option, Result, Ok, Err, IsSome, ◌≡◌, ◌++◌}
use Rattle.kit_defs.specs.Kits.{Kit}
use Rattle.group_defs.specs.Process.{Process}
use Rattle.member_events.specs.declared.events.Note.{Note}
use Rattle.node_service.specs.Lines.{note}
use Rattle.node_defs.specs.Casts.{Cast, pair_of}
use Rattle.node_defs.specs.Nodes.{Leaving, Notes, Answer, Done, Failed}
use Rattle.node_traces.specs.Outside.{LinkSeen}
use Rattle.node_traces.specs.Service.{Asked}
use Rattle.letting_laws.specs.Letting.{edge, LetOut}
pub use Rattle.letting_laws.specs.Letting.{sends_of}
pub use Rattle.node_service.specs.Answers.{letters_to, letters_in}

-- the process lets these notes out
abbrev pub tells_of : ℕ → List Note → List Leaving
tells_of me notes = map (λ n. Notes me (note n)) notes

-- the letter can be sealed: the process shares a key with whom it goes to, and the frame has at most 61,000 bytes
pub record IsSealable (kit : Kit) (me : ℕ) (letter : ℕ × List ℕ) : Type 0 where
  pub shared : IsSome (pair_of kit me letter.0)
  pub short : length letter.1 ≤ 61000

-- ---- as the code has it

-- the answer to a send
abbrev pub answer_of : {T E : Type 0} → Result T E → Answer
answer_of (Ok done) = Done
answer_of (Err failed) = Failed

-- a link, as it is seen
abbrev pub link_seen : {L : Type 0} → (L → Option (List (ℕ × List ℕ))) → (L → Option (ℕ → List (List ℕ))) → (L → ℕ) → L → LinkSeen
link_seen sent coming faults link = record { sent = sent link; coming = coming link; faults = faults link }

-- These notes of the process were reported: each has its line and after it what the service said of it, and they follow the text that there
-- was; the service heard of them, one after the other. After them are these lines.
pub record ReportsNotes (c : Cast) (at : ℕ → Process) (me : ℕ) (notes : List Note) (heard hears : List Asked) (old late new : List ℕ) : Type 0 where
  pub reported : List ℕ
  pub out : (link : LinkSeen) → LetOut c at (tells_of me notes) (edge link old [] heard) (edge link reported [] hears)
  pub whole : new ≡ reported ++ late

-- A whole turn was let out, with the notes' lines and what the service said of them, and after them the lines of failed sends; all this
-- follows the text that there was.
pub record LetsTurnOut (c : Cast) (at : ℕ → Process) (ls : List Leaving) (before now : LinkSeen) (heard hears : List Asked) (old new : List ℕ)
    : Type 0 where
  pub text : List ℕ
  pub late : List ℕ
  pub out : LetOut c at ls (edge before [] [] heard) (edge now text late hears)
  pub whole : new ≡ old ++ (text ++ late)
