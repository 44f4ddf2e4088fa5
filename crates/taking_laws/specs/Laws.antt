-- Which notes a server can take, and that those of its process are such.
use Rattle.std.specs.Prelude.{◌≡◌, ℕ, ◌<◌, List, [], ◌∷◌, ◌++◌, All}
use Rattle.message_defs.specs.Spelling.{IsStatement}
use Rattle.group_defs.specs.Views.{IsView}
use Rattle.group_defs.specs.Process.{Setting, start}
use Rattle.group_defs.specs.Family.{handed_to}
use Rattle.group_defs.specs.Events.{Note, Delivers, Installs, Liar, Spent, Halts, Turn, outcome, run}
use Rattle.view_table.specs.Views.{IsNumberedView}
use Rattle.store_defs.specs.Serving.{Place, Server, after_notes, position_at}
use Rattle.store_replies.specs.Words.{HasSpelling}
use Rattle.following_laws.specs.Runs.{Step, begin, reached, turns_in}
use Rattle.store_server.specs.Notes as code
use Rattle.store_server.specs.Notes.{CanTake, note_of}
use Rattle.store_server.specs.Serving.{IsServer}
use Rattle.store_server.specs.declared.server.Server as declared

-- the reply to a message that is delivered is in its ranges: view and place to 1,023, position at its place to 15, payload to 1,024 bytes; a view
-- that is installed is one, with a number to 1,023, and comes after the one before it
abbrev pub Takes : Server → Note → Type 0
Takes s (Delivers x d) = HasSpelling x d.place (position_at s.last d.place) d.payload
Takes s (Installs v) = IsNumberedView v × (s.view.number < v.number)
Takes s (Liar p) = Unit {0}
Takes s Spent = Unit {0}
Takes s (Halts delivered cut) = Unit {0}

-- A run of a server begins with a process as its earlier turns left it, and goes through these steps. Where what was handed over is in range, as
-- what is read of a frame is, each note of the next turn is one that the server can take, once it has been given those before it.
abbrev pub NotesAreTaken : Type 0
NotesAreTaken = (s : Setting) (q : Place) (me batch_limit : ℕ) (earlier : List Turn) (steps : List Step) (t : Turn) (reported others : List Note)
    (note : Note) → s.genesis.number ≡ 0 → IsView s.genesis
    → All (λ c. IsStatement c.statement) (handed_to (earlier ++ (turns_in steps ++ t ∷ [])))
    → let m = reached s q (begin (run s (start s me batch_limit) earlier)) steps in
    (outcome s m.process t).notes ≡ reported ++ note ∷ others
    → Takes (after_notes q m.server reported) note

-- so a server of the code can take it, which keeps what that server does
abbrev pub ServersCanTake : Type 0
ServersCanTake = (q : Place) (s : Server) (x : declared.Server) (note : code.Note) → IsServer q s x → Takes s (note_of note) → CanTake x note
