-- What is left of a turn: the service is asked whom to suspect, where the event was a frame.
use Rattle.std.specs.Prelude.{ℕ, List, [], map, Option, Some, None}
use Rattle.journal_defs.specs.Entries.{Event}
use Rattle.member_events.specs.declared.events.Outcome.{Outcome}
use Rattle.node_defs.specs.Nodes.{Task, asks}
use Rattle.sealing_laws.specs.Service.{note}

-- of an event that was taken, which came to this; of one that was refused, nothing
abbrev pub left_to_ask : ℕ → Event → Option Outcome → List Task
left_to_ask me e None = []
left_to_ask me e (Some came) = asks me e (map note came.notes.items)
