-- A statement's bytes, and the body that is signed.
-- A statement is its kind byte and its content; `x2` is a field x of two bytes, the higher one first:
--   1 Init                      x2 l2 length2 payload
--   2 Echo                      x2 s1 l2 length2 payload
--   3 Order, 4 Place, 5 Keep    x2 k2 s1 l2, of one message
--   6 Notify                    x2 update2
--   7 End                       x2 k2
--   8 Last                      x2 r1 00, or x2 r1 01 r0 value4
--   9 Suggest, 10 Ack, 11 Ready x2 r1 value4
--   12 Order, 13 Place, 14 Keep x2 k2 count1 and count times s1 l2, of 2 to 16 messages
-- An update is 01 p, 02 p or 03 00. A value is its update and its cut of two bytes.
-- Names here (* for this crate alone):
--   message_bytes, place_kind, batch_bytes, value_bytes, ready_bytes, spelling, body
--   the ranges: what has a spelling that is read again: IsViewNumber, IsMessage, IsBatch, IsUpdate, IsValue, IsReport, IsStatement,
--     IsClaim
use Rattle.std.specs.Prelude.{ℕ, ◌+◌, ◌<◌, ◌≤◌, List, [], ◌∷◌, ◌++◌, length, flat_map, Option, Some, None, codes}
use Rattle.std.specs.List.{AllByRecursion}
use Rattle.byte_defs.specs.Fields.{two_bytes, text}
use Rattle.message_defs.specs.Limits.{last_process, last_number, most_places, most_messages, last_rank, most_payload_bytes, most_signature_bytes}
use Rattle.message_defs.specs.Updates.{Update, Remove, Add, Renew, Value, update_numbers}
use Rattle.message_defs.specs.Statements.{Message, Batch, Statement, Init, Echo, Order, Place, Keep, Notify, End, Last, Suggest, Ack, Ready, Claim}

-- s1 l2: the sender, and the number of its message
abbrev pub message_bytes : Message → List ℕ
message_bytes m = m.sender ∷ two_bytes m.number

-- the kind byte of an Order, a Place or a Keep: the kind's own where the place holds one message, and nine more where it holds several
abbrev pub place_kind : ℕ → Batch → ℕ
place_kind kind (m ∷ []) = kind
place_kind kind b = kind + 9

-- one message as it is, several after their number: so a batch has one spelling
abbrev pub batch_bytes : Batch → List ℕ
batch_bytes (m ∷ []) = message_bytes m
batch_bytes b = length b ∷ flat_map message_bytes b

-- the update, and the cut
abbrev pub value_bytes : Value → List ℕ
value_bytes v = update_numbers v.update ++ two_bytes v.cut

-- what a Last reports: 00 for none, or 01 with the rank and the value of a Ready
abbrev pub ready_bytes : Option (ℕ × Value) → List ℕ
ready_bytes None = 0 ∷ []
ready_bytes (Some ready) = 1 ∷ ready.0 ∷ value_bytes ready.1

-- the bytes of a statement, as the table above has them
abbrev pub spelling : Statement → List ℕ
spelling (Init x l payload) = 1 ∷ (two_bytes x ++ two_bytes l ++ text payload)
spelling (Echo x m payload) = 2 ∷ (two_bytes x ++ message_bytes m ++ text payload)
spelling (Order x k b) = place_kind 3 b ∷ (two_bytes x ++ two_bytes k ++ batch_bytes b)
spelling (Place x k b) = place_kind 4 b ∷ (two_bytes x ++ two_bytes k ++ batch_bytes b)
spelling (Keep x k b) = place_kind 5 b ∷ (two_bytes x ++ two_bytes k ++ batch_bytes b)
spelling (Notify x u) = 6 ∷ (two_bytes x ++ update_numbers u)
spelling (End x k) = 7 ∷ (two_bytes x ++ two_bytes k)
spelling (Last x r ready) = 8 ∷ (two_bytes x ++ r ∷ ready_bytes ready)
spelling (Suggest x r v) = 9 ∷ (two_bytes x ++ r ∷ value_bytes v)
spelling (Ack x r v) = 10 ∷ (two_bytes x ++ r ∷ value_bytes v)
spelling (Ready x r v) = 11 ∷ (two_bytes x ++ r ∷ value_bytes v)

-- the four letters, the group, the signer and the statement
abbrev pub body : List ℕ → ℕ → Statement → List ℕ
body group signer st = codes "RPB1" ++ group ++ (signer ∷ spelling st)

-- ---- the ranges: what has a spelling that is read again

-- views are numbered from 0 to 1,023
abbrev pub IsViewNumber : ℕ → Type 0
IsViewNumber x = x ≤ last_number

-- the sender is a process, 0 to 63, and its messages in a view are numbered from 0 to 1,023
abbrev pub IsMessage : Message → Type 0
IsMessage m = (m.sender ≤ last_process) × (m.number ≤ last_number)

-- a place holds 1 to 16 messages
pub record IsBatch (b : Batch) : Type 0 where
  pub some : 1 ≤ length b
  pub few : length b ≤ most_messages
  pub each : AllByRecursion IsMessage b

-- the process that is removed or added is one of 0 to 63
abbrev pub IsUpdate : Update → Type 0
IsUpdate (Remove p) = p ≤ last_process
IsUpdate (Add p) = p ≤ last_process
IsUpdate Renew = Unit {0}

-- its update is in range, and its cut is at most 1,024 places
abbrev pub IsValue : Value → Type 0
IsValue v = IsUpdate v.update × (v.cut ≤ most_places)

-- a Last of rank r reports a Ready of a lower rank
abbrev pub IsReport : ℕ → Option (ℕ × Value) → Type 0
IsReport r None = Unit {0}
IsReport r (Some ready) = (ready.0 < r) × IsValue ready.1

-- each field is in its range: numbers and places to 1,023, payloads to 1,024 bytes, lengths to 1,024, ranks to 15
abbrev pub IsStatement : Statement → Type 0
IsStatement (Init x l payload) = IsViewNumber x × (l ≤ last_number) × (length payload ≤ most_payload_bytes)
IsStatement (Echo x m payload) = IsViewNumber x × IsMessage m × (length payload ≤ most_payload_bytes)
IsStatement (Order x k b) = IsViewNumber x × (k ≤ last_number) × IsBatch b
IsStatement (Place x k b) = IsViewNumber x × (k ≤ last_number) × IsBatch b
IsStatement (Keep x k b) = IsViewNumber x × (k ≤ last_number) × IsBatch b
IsStatement (Notify x u) = IsViewNumber x × IsUpdate u
IsStatement (End x k) = IsViewNumber x × (k ≤ most_places)
IsStatement (Last x r ready) = IsViewNumber x × (r ≤ last_rank) × IsReport r ready
IsStatement (Suggest x r v) = IsViewNumber x × (r ≤ last_rank) × IsValue v
IsStatement (Ack x r v) = IsViewNumber x × (r ≤ last_rank) × IsValue v
IsStatement (Ready x r v) = IsViewNumber x × (r ≤ last_rank) × IsValue v

-- what a frame can carry
abbrev pub IsClaim : Claim → Type 0
IsClaim c = (c.signer ≤ last_process) × IsStatement c.statement × (length c.signature ≤ most_signature_bytes)
