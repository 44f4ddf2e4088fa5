-- A node whose turn its journal has taken in.
use Rattle.std.specs.Prelude.{◌≡◌, ℕ, ◌+◌, List, [], ◌∷◌, ◌++◌, length, flat_map, Option, Some, None}
use Rattle.journal_defs.specs.Entries.{Event}
use Rattle.journal_defs.specs.Journals.{record_bytes}
use Rattle.journal_rp.specs.declared.journal.Journal.{Journal}
use Rattle.journal_rp.specs.declared.journal.Writing.{Writing}
use Rattle.journal_rp.specs.declared.turn.Synced.{Synced}
use Rattle.journal_rp.specs.declared.turn.Unsynced.{Unsynced}
use Rattle.journal_rp.specs.Turns as turns
use Rattle.node_defs.specs.Casts.{Cast, outcome_of}
use Rattle.node_defs.specs.Nodes.{Node, Task, Flush, Snapper, asks, leaving_of, new_entry, with_turn}
use Rattle.node_traces.specs.Stops.{Outset}
use Rattle.node_traces.specs.Goes.{Outside}
use Rattle.node_traces.specs.Went.{Went}
use Rattle.sealing_laws.specs.Running.{IsJournalOf}
use Rattle.node_taking.specs.declared.stepping.Away.{Away}

-- the node, open and running, with nothing that waits, at these tasks
abbrev pub at : Node → List Task → Node
at n ts = record n { stopped = None; opening = []; leaving = []; tasks = ts; text = []; late = [] }

-- the node with the turn that process p has taken of this event, and with the turn's entry
abbrev pub grown : Cast → Node → ℕ → Event → Node
grown c n p e = record n {
  now = with_turn c n (Some (p, e));
  kept = n.kept ++ new_entry c n (Some (p, e));
  gate = n.gate + length (flat_map record_bytes (new_entry c n (Some (p, e))));
}

-- and about to let out what the turn sends and reports, to write the lines, and to ask the service, before its other tasks
abbrev pub letting : Cast → Node → ℕ → Event → List Task → Node
letting c n p e ts = record (at (grown c n p e) (Flush ∷ (asks p e (outcome_of c (n.now p) e).notes ++ ts))) {
  leaving = leaving_of p (outcome_of c (n.now p) e);
}

-- node n went on to that, and this is its journal now
pub record Keeps {D : Type 0} (seen : D → Option (List ℕ)) (may_leave : D → List ℕ → Type 0) (moment : D → ℕ)
    (left_since : D → ℕ → List ℕ → Type 0) (c : Cast) (snap : Snapper) (most : ℕ) (f : Outset) (n : Node) (p : ℕ) (e : Event) (ts : List Task)
    (x : Outside) (old new : D) (j : Journal Writing) : Type 0 where
  pub went : Went seen moment left_since c snap most f n x old (letting c n p e ts) x new
  pub journal : IsJournalOf f.head (grown c n p e) j (seen new) (may_leave new)

-- the turn is that one, and with it are the same keys and the same port
pub record IsSameTurn (was : Away Unsynced) (now : Away Synced) : Type 0 where
  pub outcome : turns.outcome_of now.turn ≡ turns.outcome_of was.turn
  pub entry : turns.staged_of now.turn ≡ turns.staged_of was.turn
  pub process : turns.process_of now.turn ≡ turns.process_of was.turn
  pub keys : now.keys ≡ was.keys
  pub port : now.port ≡ was.port
