-- What a claim is found by: its signer, and the numbers of its slot.
use Rattle.std.specs.Prelude.{ℕ, Bool, ◌&&◌, ◌==◌}
use Rattle.message_defs.specs.Updates.{Update, Remove, Add, Renew}
use Rattle.message_defs.specs.Statements.{Slot, InitAt, EchoAt, OrderAt, PlaceAt, KeepAt, NotifyAt, EndAt, LastAt, SuggestAt, AckAt, ReadyAt}
use Rattle.claim_index.specs.declared.key.SlotKey.{SlotKey}
use Rattle.claim_index.specs.declared.key.Key.{Key}

-- the numbers, by name
abbrev pub numbers : ℕ → ℕ → ℕ → ℕ → SlotKey
numbers kind view first second = record { kind = kind; first = first; view = view; second = second }

-- an update is its tag and its process
abbrev pub update_key : ℕ → Update → SlotKey
update_key x (Remove p) = numbers 6 x 1 p
update_key x (Add p) = numbers 6 x 2 p
update_key x Renew = numbers 6 x 3 0

-- the kind, the view, and what is left of the slot
abbrev pub slot_key : Slot → SlotKey
slot_key (InitAt x l) = numbers 1 x 0 l
slot_key (EchoAt x m) = numbers 2 x m.sender m.number
slot_key (OrderAt x k) = numbers 3 x 0 k
slot_key (PlaceAt x k) = numbers 4 x 0 k
slot_key (KeepAt x k) = numbers 5 x 0 k
slot_key (NotifyAt x u) = update_key x u
slot_key (EndAt x) = numbers 7 x 0 0
slot_key (LastAt x r) = numbers 8 x 0 r
slot_key (SuggestAt x r) = numbers 9 x 0 r
slot_key (AckAt x r) = numbers 10 x 0 r
slot_key (ReadyAt x r) = numbers 11 x 0 r

-- of what the signer says on the slot
abbrev pub key_of : ℕ → Slot → Key
key_of signer s = record { signer = signer; slot = slot_key s }

-- all numbers are equal
abbrev pub same_slot_key : SlotKey → SlotKey → Bool
same_slot_key a b = a.view == b.view && (a.first == b.first && (a.kind == b.kind && a.second == b.second))

-- of one signer, and of one slot
abbrev pub same_key : Key → Key → Bool
same_key a b = same_slot_key a.slot b.slot && a.signer == b.signer
