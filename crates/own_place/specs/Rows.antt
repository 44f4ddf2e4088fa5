-- How far the slots of each row of a view are signed.
use Rattle.std.specs.Prelude.{◌≡◌, ℕ, ◌+◌, ◌<◌, ◌≤◌, Bool, true, List, length, slice_index, Option, Some, None}
use Rattle.std.specs.List.{list_any}
use Rattle.message_defs.specs.Statements as plain
use Rattle.message_defs.specs.Statements.{Statement, Slot, InitAt, EchoAt, PlaceAt, KeepAt}
use Rattle.claim_index.specs.Statements.{message}
use Rattle.claim_index.specs.declared.key.SlotKey.{SlotKey}
use Rattle.claim_index.specs.Keys.{slot_key, same_slot_key}
use Rattle.own_place.specs.declared.rows.Row.{Row}
use Rattle.own_place.specs.declared.rows.Row.TheVariants.{Inits, Places, Keeps, Echoes}

-- the row's place among them
abbrev pub index_of : Row → ℕ
index_of Inits = 0
index_of Places = 1
index_of Keeps = 2
index_of (Echoes q) = q + 3

-- the slot of this number
abbrev pub slot_in : Row → ℕ → ℕ → Slot
slot_in Inits x n = InitAt x n
slot_in Places x n = PlaceAt x n
slot_in Keeps x n = KeepAt x n
slot_in (Echoes q) x n = EchoAt x (message q n)

-- the row of the statement's slot
abbrev pub row_of : Statement → Option Row
row_of (plain.Init x l b) = Some Inits
row_of (plain.Echo x m b) = Some (Echoes m.sender)
row_of (plain.Place x k b) = Some Places
row_of (plain.Keep x k b) = Some Keeps
row_of _ = None

-- the slot is one of those that these are the keys of
abbrev pub has_key : List SlotKey → Slot → Bool
has_key keys s = list_any (same_slot_key (slot_key s)) keys

-- of each row of the view, the slots of all numbers below this one are signed
pub record AreReached (keys : List SlotKey) (x : ℕ) (reached : List ℕ) : Type 0 where
  pub rows : length reached ≡ 67
  pub below : (row : Row) (n : ℕ) → n < slice_index reached (index_of row) → has_key keys (slot_in row x n) ≡ true

-- the same; and at the mark there were `marked` slots
pub record AreMarkedRows (keys : List SlotKey) (x : ℕ) (reached : List ℕ) (marked : ℕ) : Type 0 where
  pub rows : AreReached keys x reached
  pub few : marked ≤ length keys
