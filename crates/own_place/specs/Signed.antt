-- Which slots are signed.
use Rattle.std.specs.Prelude.{ℕ, Bool, List}
use Rattle.std.specs.List.{list_any}
use Rattle.message_defs.specs.Statements.{Slot}
use Rattle.claim_index.specs.declared.key.SlotKey.{SlotKey}
use Rattle.claim_index.specs.Keys.{slot_key, same_slot_key}

-- the kind and slot of each statement that is signed, in order of signing; those that were signed at the mark; and how many more are noted
-- without memory
pub record Signed : Type 0 where
  pub slots : List SlotKey
  pub marked : List SlotKey
  pub left : ℕ

-- the slot is one of them
abbrev pub has_slot : Signed → Slot → Bool
has_slot d s = list_any (same_slot_key (slot_key s)) d.slots
