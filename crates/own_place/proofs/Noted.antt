-- A slot more among those that are signed.
use Rattle.std.proofs.Common.{◌≡◌, List, [], ◌∷◌, ◌++◌, false, ap, ◌∙◌}
use Rattle.std.specs.Prelude.{if◌then◌else◌}
use Rattle.std.specs.List.{list_any}
use Rattle.indexmap.specs.IndexSet.{insert_key}
use Rattle.message_defs.specs.Statements.{Slot}
use Rattle.claim_index.specs.declared.key.SlotKey.{SlotKey}
use Rattle.claim_index.specs.Keys.{slot_key, same_slot_key}

-- one that is not there goes last
pub noted-last : (keys slots : List SlotKey) (key : SlotKey) (s : Slot) → keys ≡ slots → key ≡ slot_key s
    → list_any (same_slot_key (slot_key s)) slots ≡ false → insert_key same_slot_key keys key ≡ slots ++ slot_key s ∷ []
noted-last keys slots key s e f fresh = (λ i. insert_key same_slot_key (e i) (f i)) ∙ ap
    (λ b. if b then slots else slots ++ slot_key s ∷ []) fresh
