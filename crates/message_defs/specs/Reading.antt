-- Reading a statement, with the first fault: its kind, whether the frame carries it, its grammar, its ranges.
-- Names here (* for this crate alone):
--   Step*
--   the fields: a statement that ends in one is no statement: byte_at, short_at, ended, message_at, messages_at, count_at, payload_at,
--     update_by, update_at, value_at, report_at
--   the ranges, which are tested once the whole statement is in its grammar: within, message_within, messages_within, update_within,
--     value_within, report_within
--   each kind, after the kind byte: its fields, nothing after them, and their ranges: init_at, echo_at, placed_at, place_at, notify_at,
--     end_at, last_at, valued_at, ranked_at, content_at
--   a statement, all of the bytes, where the frame carries these kinds: is_kind, statement_in, statement_of
use Rattle.std.specs.Prelude.{ℕ, zero, suc, Bool, true, false, ◌&&◌, not, nat_lt, nat_le, ◌==◌, List, [], ◌∷◌, length, if◌then◌else◌, Option, Some, None, Result, Ok, Err}
use Rattle.std.specs.Int.{w8, w16}
use Rattle.byte_defs.specs.Fields.{◌>>=◌, refuse_if, number_at}
use Rattle.message_defs.specs.Limits.{last_process, last_number, most_places, most_messages, last_rank, most_payload_bytes}
use Rattle.message_defs.specs.declared.FrameFault.{FrameFault}
use Rattle.message_defs.specs.declared.FrameFault.TheVariants as faults
use Rattle.message_defs.specs.Updates.{Update, Remove, Add, Renew, Value}
use Rattle.message_defs.specs.Statements.{Message, Batch, Statement, Init, Echo, Order, Place, Keep, Notify, End, Last, Suggest, Ack, Ready}

-- what a step reads, and the bytes after it
abbrev pub Step : Type 0 → Type 0
Step A = Result (A × List ℕ) FrameFault

-- ---- the fields: a statement that ends in one is no statement

abbrev pub byte_at : List ℕ → Step ℕ
byte_at bytes = number_at faults.Statement w8 bytes

abbrev pub short_at : List ℕ → Step ℕ
short_at bytes = number_at faults.Statement w16 bytes

-- nothing is left
abbrev pub ended : List ℕ → Result (Unit {0}) FrameFault
ended bytes = refuse_if (not (length bytes == 0)) faults.Statement

-- s1 l2
unfoldable pub message_at : List ℕ → Step Message
message_at bytes = do
  sender ← byte_at bytes
  number ← short_at sender.1
  Ok (record { sender = sender.0; number = number.0 }, number.1)

-- n times s1 l2
unfoldable pub messages_at : ℕ → List ℕ → Step Batch
messages_at zero bytes = Ok ([], bytes)
messages_at (suc n) bytes = do
  first ← message_at bytes
  others ← messages_at n first.1
  Ok (first.0 ∷ others.0, others.1)

-- how many messages a place holds: one, which is not written, or several, whose count is 2 to 16
unfoldable pub count_at : (several : Bool) → List ℕ → Step ℕ
count_at false bytes = Ok (1, bytes)
count_at true bytes = do
  count ← byte_at bytes
  _ ← refuse_if (nat_lt count.0 2) faults.Statement
  _ ← refuse_if (nat_lt most_messages count.0) faults.Statement
  Ok count

-- the length, and that many bytes, which are all that is left
unfoldable pub payload_at : List ℕ → Result (List ℕ) FrameFault
payload_at bytes = do
  len ← short_at bytes
  _ ← refuse_if (not (length len.1 == len.0)) faults.Statement
  Ok len.1

-- by its first byte and its second
abbrev pub update_by : ℕ → ℕ → Result Update FrameFault
update_by tag p =
    if tag == 1 then Ok (Remove p) else
    (if tag == 2 then Ok (Add p) else
    (if (tag == 3) && (p == 0) then Ok Renew else Err faults.Statement))

-- an update, of its two bytes
unfoldable pub update_at : List ℕ → Step Update
update_at bytes = do
  tag ← byte_at bytes
  p ← byte_at tag.1
  update ← update_by tag.0 p.0
  Ok (update, p.1)

-- an update and a cut
unfoldable pub value_at : List ℕ → Step Value
value_at bytes = do
  update ← update_at bytes
  cut ← short_at update.1
  Ok (record { update = update.0; cut = cut.0 }, cut.1)

-- a tag of 0, or of 1 and a Ready's rank and value
unfoldable pub report_at : List ℕ → Step (Option (ℕ × Value))
report_at bytes = do
  tag ← byte_at bytes
  if tag.0 == 0 then Ok (None, tag.1) else (do
    _ ← refuse_if (not (tag.0 == 1)) faults.Statement
    rank ← byte_at tag.1
    value ← value_at rank.1
    Ok (Some (rank.0, value.0), value.1))

-- ---- the ranges, which are tested once the whole statement is in its grammar

-- at most the limit
abbrev pub within : ℕ → ℕ → Result (Unit {0}) FrameFault
within limit n = refuse_if (nat_lt limit n) faults.Range

-- the sender is at most 63, the number at most 1,023
abbrev pub message_within : Message → Result (Unit {0}) FrameFault
message_within m = within last_process m.sender >>= λ _. within last_number m.number

-- each message is in range
abbrev pub messages_within : Batch → Result (Unit {0}) FrameFault
messages_within [] = Ok tt
messages_within (m ∷ ms) = message_within m >>= λ _. messages_within ms

-- the process is at most 63
abbrev pub update_within : Update → Result (Unit {0}) FrameFault
update_within (Remove p) = within last_process p
update_within (Add p) = within last_process p
update_within Renew = Ok tt

-- the update is in range, and the cut at most 1,024
abbrev pub value_within : Value → Result (Unit {0}) FrameFault
value_within v = update_within v.update >>= λ _. within most_places v.cut

-- the rank of the Ready is below the Last's own
abbrev pub report_within : ℕ → Option (ℕ × Value) → Result (Unit {0}) FrameFault
report_within r None = Ok tt
report_within r (Some ready) = refuse_if (nat_le r ready.0) faults.Range >>= λ _. value_within ready.1

-- ---- each kind, after the kind byte: its fields, nothing after them, and their ranges

unfoldable pub init_at : List ℕ → Result Statement FrameFault
init_at bytes = do
  view ← short_at bytes
  number ← short_at view.1
  payload ← payload_at number.1
  _ ← within last_number view.0
  _ ← within last_number number.0
  _ ← within most_payload_bytes (length payload)
  Ok (Init view.0 number.0 payload)

unfoldable pub echo_at : List ℕ → Result Statement FrameFault
echo_at bytes = do
  view ← short_at bytes
  message ← message_at view.1
  payload ← payload_at message.1
  _ ← within last_number view.0
  _ ← message_within message.0
  _ ← within most_payload_bytes (length payload)
  Ok (Echo view.0 message.0 payload)

-- the view, the place, and the one message or several
unfoldable pub placed_at : (several : Bool) → List ℕ → Result (ℕ × ℕ × Batch) FrameFault
placed_at several bytes = do
  view ← short_at bytes
  place ← short_at view.1
  count ← count_at several place.1
  batch ← messages_at count.0 count.1
  _ ← ended batch.1
  _ ← within last_number view.0
  _ ← within last_number place.0
  _ ← messages_within batch.0
  Ok (view.0, place.0, batch.0)

-- Order, Place or Keep
abbrev pub place_at : (ℕ → ℕ → Batch → Statement) → (several : Bool) → List ℕ → Result Statement FrameFault
place_at kind several bytes = placed_at several bytes >>= λ p. Ok (kind p.0 p.1 p.2)

unfoldable pub notify_at : List ℕ → Result Statement FrameFault
notify_at bytes = do
  view ← short_at bytes
  update ← update_at view.1
  _ ← ended update.1
  _ ← within last_number view.0
  _ ← update_within update.0
  Ok (Notify view.0 update.0)

unfoldable pub end_at : List ℕ → Result Statement FrameFault
end_at bytes = do
  view ← short_at bytes
  len ← short_at view.1
  _ ← ended len.1
  _ ← within last_number view.0
  _ ← within most_places len.0
  Ok (End view.0 len.0)

unfoldable pub last_at : List ℕ → Result Statement FrameFault
last_at bytes = do
  view ← short_at bytes
  rank ← byte_at view.1
  report ← report_at rank.1
  _ ← ended report.1
  _ ← within last_number view.0
  _ ← within last_rank rank.0
  _ ← report_within rank.0 report.0
  Ok (Last view.0 rank.0 report.0)

-- the view, the rank and the value
unfoldable pub valued_at : List ℕ → Result (ℕ × ℕ × Value) FrameFault
valued_at bytes = do
  view ← short_at bytes
  rank ← byte_at view.1
  value ← value_at rank.1
  _ ← ended value.1
  _ ← within last_number view.0
  _ ← within last_rank rank.0
  _ ← value_within value.0
  Ok (view.0, rank.0, value.0)

-- Suggest, Ack or Ready
abbrev pub ranked_at : (ℕ → ℕ → Value → Statement) → List ℕ → Result Statement FrameFault
ranked_at kind bytes = valued_at bytes >>= λ v. Ok (kind v.0 v.1 v.2)

-- by its kind
unfoldable pub content_at : ℕ → List ℕ → Result Statement FrameFault
content_at kind bytes =
    if kind == 1 then init_at bytes else (if kind == 2 then echo_at bytes else
    (if kind == 3 then place_at Order false bytes
    else (if kind == 4 then place_at Place false bytes else (if kind == 5 then place_at Keep false bytes else
    (if kind == 6 then notify_at bytes else (if kind == 7 then end_at bytes else (if kind == 8 then last_at bytes else
    (if kind == 9 then ranked_at Suggest bytes
    else (if kind == 10 then ranked_at Ack bytes else (if kind == 11 then ranked_at Ready bytes else
    (if kind == 12 then place_at Order true bytes
    else (if kind == 13 then place_at Place true bytes else (if kind == 14 then place_at Keep true bytes else
    Err faults.Statement)))))))))))))

-- ---- a statement, all of the bytes, where the frame carries these kinds

-- kind bytes are 1 to 14: of eleven kinds, and three of these with several messages
abbrev pub is_kind : ℕ → Bool
is_kind n = nat_le 1 n && nat_le n 14

-- the statement that the bytes spell, in a frame that carries these kinds
unfoldable pub statement_in : (ℕ → Bool) → List ℕ → Result Statement FrameFault
statement_in carries bytes = do
  kind ← byte_at bytes
  _ ← refuse_if (not (is_kind kind.0)) faults.Statement
  _ ← refuse_if (not (carries kind.0)) faults.Misplaced
  content_at kind.0 kind.1

-- every kind of statement is carried
unfoldable pub statement_of : List ℕ → Result Statement FrameFault
statement_of bytes = statement_in (λ kind. true) bytes
