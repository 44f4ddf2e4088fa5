-- Batches in order, and how many messages of each member those before a place name.
use Rattle.std.specs.Prelude.{◌≡◌, ℕ, ◌+◌, ◌≤◌, List, length, take, Some, slice_get, slice_index}
use Rattle.std.specs.List.{AllByRecursion}
use Rattle.message_defs.specs.Statements.{Message, Batch}
use Rattle.group_defs.specs.Views.{View}
use Rattle.group_defs.specs.Certified.{messages}
use Rattle.rule_laws.specs.Placing.{counts_in}

-- the batches of the places 0, 1, 2 and so on of the view
pub record Prefix : Type 0 where
  pub view : View
  pub batches : List Batch

-- 16 numbers: the first are those of the members, in rank order, and none is greater than how many messages there are
pub record IsRow (v : View) (ms : List Message) (row : List ℕ) : Type 0 where
  pub counts : take (length v.members) row ≡ counts_in v ms
  pub wide : length row ≡ 16
  pub small : (r : ℕ) → slice_index row r ≤ length ms

-- there is a row for each place, and one more, and a batch has at most 16 messages
pub record AreRows (v : View) (bs : List Batch) (rows : List (List ℕ)) : Type 0 where
  pub many : length rows ≡ length bs + 1
  pub few : AllByRecursion (λ b. length b ≤ 16) bs
  pub counted : (k : ℕ) (row : List ℕ) → slice_get rows k ≡ Some row → IsRow v (messages (take k bs)) row

-- there are at most 1,024 places, and there is room for them
pub record IsPrefix (v : View) (bs : List Batch) (rows : List (List ℕ)) (for_batches for_rows : ℕ) : Type 0 where
  pub counted : AreRows v bs rows
  pub most : length bs ≤ 1024
  pub room : 1024 ≤ for_batches
  pub rows_room : 1025 ≤ for_rows
