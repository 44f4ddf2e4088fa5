-- What was heard on each slot at a mark.
use Rattle.std.specs.Prelude.{◌≡◌, ℕ, ◌<◌, ◌≤◌, List, [], ◌∷◌, ◌++◌, length, take, slice_get, Option, Some, None, nat_lt, if◌then◌else◌}
use Rattle.std.specs.Option.{option_map, option_to_list}
use Rattle.std.specs.List.{AllByRecursion}
use Rattle.indexmap.specs.Layout.{set_value_at}
use Rattle.group_defs.specs.Process.{Pool}
use Rattle.claim_index.specs.declared.key.SlotKey.{SlotKey}
use Rattle.slot_quorums.specs.declared.cell.Cell.{Cell}
use Rattle.slot_quorums.specs.Cells.{AreCells}

-- the slot's cell is this one: in the place of the one that is there, or after all others
abbrev pub placed : List (SlotKey × Cell) → SlotKey → Option ℕ → Cell → List (SlotKey × Cell)
placed cs key None c = cs ++ (key, c) ∷ []
placed cs key (Some i) c = set_value_at cs i c

-- what is kept of a cell that is about to change, if it was one of the `marked` at the mark: its place, and what it is
abbrev pub noted : List (SlotKey × Cell) → ℕ → Option ℕ → List (ℕ × Cell)
noted cs marked None = []
noted cs marked (Some i) = if nat_lt i marked then option_to_list (option_map (λ e. (i, e.1)) (slice_get cs i)) else []

-- Each changed cell is again what it was. One that changed more than once is there more than once, and what it was first is put back
-- last.
abbrev pub restored : List (ℕ × Cell) → List (SlotKey × Cell) → List (SlotKey × Cell)
restored [] cs = cs
restored (x ∷ xs) cs = set_value_at (restored xs cs) x.0 x.1

-- the cells are those of the pool h; and the first `marked`, with what of them changed put back, those of g, the pool at the mark
pub record AreMarkedCells (h g : Pool) (cs : List (SlotKey × Cell)) (marked : ℕ) (changed : List (ℕ × Cell)) : Type 0 where
  pub here : AreCells h cs
  pub there : AreCells g (restored changed (take marked cs))
  pub few : marked ≤ length cs
  pub old : AllByRecursion (λ x. x.0 < marked) changed
