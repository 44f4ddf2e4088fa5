-- Where an opening stops: at the first entry that does not fit, and nowhere else.
use Rattle.std.specs.Prelude.{◌≡◌, ◌↔◌, ℕ, ◌+◌, List, ◌∷◌, ◌++◌, length, flat_map, Some, None}
use Rattle.journal_defs.specs.Entries.{Entry}
use Rattle.journal_defs.specs.Journals.{record_bytes}
use Rattle.group_defs.specs.Process.{Process}
use Rattle.node_defs.specs.Lines.{Stop, BadJournal}
use Rattle.node_defs.specs.Casts.{Cast, Beginning}
use Rattle.node_defs.specs.Nodes.{Node, opens}
use Rattle.node_defs.specs.Lives.{FitsAt, FitsFrom}

-- the first of these entries that no hosted process may have written: those before it fit, and it does not
pub record FirstMisfit (c : Cast) (from : ℕ → Process) (es : List Entry) : Type 0 where
  pub before : List Entry
  pub misfit : Entry
  pub others : List Entry
  pub parts : es ≡ before ++ misfit ∷ others
  pub fit : FitsFrom c from before
  pub does_not : FitsAt c from before misfit → ⊥

-- the place of the gate after these entries, which are read from where the run begins
abbrev pub place_after : Beginning → List Entry → ℕ
place_after b es = b.place + length (flat_map record_bytes es)

-- the node has stopped at that entry: it holds those before it, and says the place of the gate before it
pub record StopsAtMisfit (c : Cast) (b : Beginning) (es : List Entry) (n : Node) (why : Stop) : Type 0 where
  pub first : FirstMisfit c b.from es
  pub place : why ≡ BadJournal (place_after b first.before)
  pub kept : n.kept ≡ first.before

-- ---- the law

-- A node opened on entries goes on exactly where each of them fits. It has stopped exactly where one does not, at the first of these.
pub record StopsExactly (c : Cast) (b : Beginning) (lines : ℕ) (es : List Entry) : Type 0 where
  pub goes_on : ((opens c b lines es).stopped ≡ None) ↔ FitsFrom c b.from es
  pub stops : (why : Stop) → ((opens c b lines es).stopped ≡ Some why) ↔ StopsAtMisfit c b es (opens c b lines es) why

abbrev pub OpensExactly : Type 0
OpensExactly = (c : Cast) (b : Beginning) (lines : ℕ) (es : List Entry) → StopsExactly c b lines es
