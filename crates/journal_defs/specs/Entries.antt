-- Entries of a journal: an event that a process took, and what it signed with it.
-- Names here (* for this crate alone):
--   Event, Entry
--   how an entry is spelled: event_bytes*, flag*, signatures_bytes*, entry_bytes
--   what has a spelling: IsEvent, AreSignatures, IsEntry
--   how an entry is read; there is one fault: Reading, process_at*, text_at*, submit_at, frame_at, of_process_at, event_behind*,
--     event_at, flag_at*, signatures_at*, entry_of
--   the two laws: AreBytes, EntryIsSpelled*, EntryIsRead*
use Rattle.std.specs.Prelude.{◌≡◌, ℕ, ◌^◌, ◌<◌, ◌≤◌, ◌==◌, nat_lt, if◌then◌else◌, Bool, List, [], ◌∷◌, ◌++◌, length, slice_index, Result, Ok, Err}
use Rattle.std.specs.List.{flat_map}
use Rattle.std.specs.Int.{w8, w16}
use Rattle.byte_defs.specs.Fields.{◌>>=◌, refuse_if, number_at, bytes_at, two_bytes, text}
use Rattle.message_defs.specs.Limits.{last_process, most_signature_bytes}
use Rattle.message_defs.specs.Entries.{all_kept_at}

-- what was handed to the process: a frame as its bytes, which may be none
pub data Event : Type 0 where
  Submit : (payload : List ℕ) → Event
  Frame : (from : ℕ) (bytes : List ℕ) → Event
  Suspect : (process : ℕ) → Event
  Join : (process : ℕ) → Event
  Renew : Event
  Tick : Event

pub record Entry : Type 0 where
  pub process : ℕ
  pub event : Event
  -- a further statement was due, and no signature was left
  pub spent : Bool
  -- of the statements that were signed, in order
  pub signatures : List (List ℕ)

-- ---- how an entry is spelled

abbrev pub event_bytes : Event → List ℕ
event_bytes (Submit payload) = 1 ∷ text payload
event_bytes (Frame from bytes) = 2 ∷ from ∷ text bytes
event_bytes (Suspect process) = 6 ∷ process ∷ []
event_bytes (Join process) = 7 ∷ process ∷ []
event_bytes Renew = 8 ∷ []
event_bytes Tick = 9 ∷ []

abbrev pub flag : Bool → ℕ
flag b = if b then 1 else 0

-- how many signatures there are, and each after its length
abbrev pub signatures_bytes : List (List ℕ) → List ℕ
signatures_bytes signatures = two_bytes (length signatures) ++ flat_map text signatures

abbrev pub entry_bytes : Entry → List ℕ
entry_bytes e = e.process ∷ (event_bytes e.event ++ flag e.spent ∷ signatures_bytes e.signatures)

-- ---- what has a spelling

abbrev pub IsEvent : Event → Type 0
IsEvent (Submit payload) = length payload < 2 ^ 16
IsEvent (Frame from bytes) = (from ≤ last_process) × (length bytes < 2 ^ 16)
IsEvent (Suspect process) = process ≤ last_process
IsEvent (Join process) = process ≤ last_process
IsEvent Renew = Unit {0}
IsEvent Tick = Unit {0}

abbrev pub AreSignatures : List (List ℕ) → Type 0
AreSignatures [] = Unit {0}
AreSignatures (s ∷ ss) = (length s ≤ most_signature_bytes) × AreSignatures ss

pub record IsEntry (e : Entry) : Type 0 where
  pub process : e.process ≤ last_process
  pub event : IsEvent e.event
  pub count : length e.signatures < 2 ^ 16
  pub each : AreSignatures e.signatures

-- ---- how an entry is read; there is one fault

abbrev pub Reading : Type 0 → Type 0
Reading A = Result A (Unit {0})

-- the number of a process, and the bytes after it
abbrev pub process_at : List ℕ → Reading (ℕ × List ℕ)
process_at bytes = do
  n ← number_at tt w8 bytes
  _ ← refuse_if (nat_lt last_process n.0) tt
  Ok n

-- two bytes of length, that many bytes, and those after them
abbrev pub text_at : List ℕ → Reading (List ℕ × List ℕ)
text_at bytes = do
  len ← number_at tt w16 bytes
  bytes_at tt len.0 len.1

unfoldable pub submit_at : List ℕ → Reading (Event × List ℕ)
submit_at bytes = do
  payload ← text_at bytes
  Ok (Submit payload.0, payload.1)

unfoldable pub frame_at : List ℕ → Reading (Event × List ℕ)
frame_at bytes = do
  from ← process_at bytes
  frame ← text_at from.1
  Ok (Frame from.0 frame.0, frame.1)

unfoldable pub of_process_at : (ℕ → Event) → List ℕ → Reading (Event × List ℕ)
of_process_at event bytes = do
  q ← process_at bytes
  Ok (event q.0, q.1)

-- by the first byte
abbrev pub event_behind : ℕ → List ℕ → Reading (Event × List ℕ)
event_behind tag bytes =
    if tag == 1 then submit_at bytes
    else if tag == 2 then frame_at bytes
    else if tag == 6 then of_process_at Suspect bytes
    else if tag == 7 then of_process_at Join bytes
    else if tag == 8 then Ok (Renew, bytes)
    else if tag == 9 then Ok (Tick, bytes)
    else Err tt

unfoldable pub event_at : List ℕ → Reading (Event × List ℕ)
event_at bytes = do
  tag ← number_at tt w8 bytes
  event_behind tag.0 tag.1

-- 0 or 1
abbrev pub flag_at : List ℕ → Reading (Bool × List ℕ)
flag_at bytes = do
  n ← number_at tt w8 bytes
  _ ← refuse_if (nat_lt 1 n.0) tt
  Ok (n.0 == 1, n.1)

abbrev pub signatures_at : List ℕ → Reading (List (List ℕ) × List ℕ)
signatures_at bytes = do
  count ← number_at tt w16 bytes
  all_kept_at count.0 count.1

-- the entry that the bytes are, all of them
unfoldable pub entry_of : List ℕ → Reading Entry
entry_of bytes = do
  p ← process_at bytes
  event ← event_at p.1
  spent ← flag_at event.1
  signatures ← signatures_at spent.1
  _ ← refuse_if (nat_lt 0 (length signatures.1)) tt
  Ok record { process = p.0; event = event.0; spent = spent.0; signatures = signatures.0 }

-- ---- the two laws

abbrev pub AreBytes : List ℕ → Type 0
AreBytes bytes = (i : ℕ) → slice_index bytes i < 256

-- bytes that are read as an entry are its spelling
abbrev pub EntryIsSpelled : Type 0
EntryIsSpelled = (bytes : List ℕ) (e : Entry) → AreBytes bytes → entry_of bytes ≡ Ok e → (bytes ≡ entry_bytes e) × IsEntry e

-- the spelling of an entry is read as it
abbrev pub EntryIsRead : Type 0
EntryIsRead = (e : Entry) → IsEntry e → entry_of (entry_bytes e) ≡ Ok e
