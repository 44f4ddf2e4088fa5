-- What members sign of the store: a reply to a message, and the store as it was when a view began. A record is the body after its letters
-- and group, and the signature.
--   reply body   RPR1, group 16, signer 1, view 2, place 2, position 1, payload after a length of two bytes, answer likewise
--   state body   RPT1, group 16, signer 1, view 2, state after a length of four bytes
--   record       the body from the signer on, signature after a length of two bytes
-- Names here (* for this crate alone):
--   last_position, most_answer_bytes, Reply, StateRecord
--   how they are spelled: reply_fields*, state_fields*, reply_body, state_body, reply_bytes, state_bytes
--   what has a spelling: IsReply, IsStateRecord
--   how they are read; there is one fault: small_at, short_at, reply_of, state_at, state_record_of
use Rattle.std.specs.Prelude.{◌≡◌, ℕ, ◌+◌, ◌<◌, ◌≤◌, ◌^◌, nat_lt, List, [], ◌∷◌, ◌++◌, length, codes, Result, Ok, Err}
use Rattle.std.specs.Int.{w8, w16, w32}
use Rattle.byte_defs.specs.Fields.{◌>>=◌, refuse_if, number_at, bytes_at, two_bytes, four_bytes, text}
use Rattle.message_defs.specs.Limits.{last_process, last_number, most_messages, most_payload_bytes, most_signature_bytes}
use Rattle.store_defs.specs.Stores.{Store, Reading, text_within, most_value_bytes, store_of, IsStore, store_bytes}

-- a place's last position: a place holds up to 16 messages
abbrev pub last_position : ℕ
last_position = 15

-- an answer is a byte and at most a value
abbrev pub most_answer_bytes : ℕ
most_answer_bytes = 513

-- what a member answers to the message at a position of a place
pub record Reply : Type 0 where
  pub signer : ℕ
  pub view : ℕ
  pub place : ℕ
  pub position : ℕ
  pub payload : List ℕ
  pub answer : List ℕ
  pub signature : List ℕ

-- the bytes of a store as a member had it when the view began
pub record StateRecord : Type 0 where
  pub signer : ℕ
  pub view : ℕ
  pub state : List ℕ
  pub signature : List ℕ

-- ---- how they are spelled

abbrev pub reply_fields : Reply → List ℕ
reply_fields r = r.signer ∷ (two_bytes r.view ++ (two_bytes r.place ++ r.position ∷ (text r.payload ++ text r.answer)))

abbrev pub state_fields : StateRecord → List ℕ
state_fields r = r.signer ∷ (two_bytes r.view ++ (four_bytes (length r.state) ++ r.state))

-- what is signed
unfoldable pub reply_body : List ℕ → Reply → List ℕ
reply_body group r = codes "RPR1" ++ (group ++ reply_fields r)

unfoldable pub state_body : List ℕ → StateRecord → List ℕ
state_body group r = codes "RPT1" ++ (group ++ state_fields r)

abbrev pub reply_bytes : Reply → List ℕ
reply_bytes r = r.signer ∷ (two_bytes r.view ++ (two_bytes r.place ++ r.position ∷ (text r.payload ++ (text r.answer ++ text r.signature))))

abbrev pub state_bytes : StateRecord → List ℕ
state_bytes r = r.signer ∷ (two_bytes r.view ++ (four_bytes (length r.state) ++ (r.state ++ text r.signature)))

-- ---- what has a spelling

pub record IsReply (r : Reply) : Type 0 where
  pub signer : r.signer ≤ last_process
  pub view : r.view ≤ last_number
  pub place : r.place ≤ last_number
  pub position : r.position ≤ last_position
  pub payload : length r.payload ≤ most_payload_bytes
  pub answer : length r.answer ≤ most_answer_bytes
  pub signature : length r.signature ≤ most_signature_bytes

pub record IsStateRecord (r : StateRecord) : Type 0 where
  pub signer : r.signer ≤ last_process
  pub view : r.view ≤ last_number
  pub state : (s : Store) × IsStore s × (r.state ≡ store_bytes s)
  pub signature : length r.signature ≤ most_signature_bytes

-- ---- how they are read; there is one fault

-- a number of one byte, at most this, and the bytes after it
unfoldable pub small_at : ℕ → List ℕ → Reading (ℕ × List ℕ)
small_at most bytes = do
  n ← number_at tt w8 bytes
  _ ← refuse_if (nat_lt most n.0) tt
  Ok n

-- a number of two bytes, at most 1,023, and the bytes after it
unfoldable pub short_at : List ℕ → Reading (ℕ × List ℕ)
short_at bytes = do
  n ← number_at tt w16 bytes
  _ ← refuse_if (nat_lt last_number n.0) tt
  Ok n

-- the reply that the bytes spell, all of them
unfoldable pub reply_of : List ℕ → Reading Reply
reply_of bytes = do
  signer ← small_at last_process bytes
  view ← short_at signer.1
  place ← short_at view.1
  position ← small_at last_position place.1
  payload ← text_within most_payload_bytes position.1
  answer ← text_within most_answer_bytes payload.1
  signature ← text_within most_signature_bytes answer.1
  _ ← refuse_if (nat_lt 0 (length signature.1)) tt
  Ok (record {
    signer = signer.0;
    view = view.0;
    place = place.0;
    position = position.0;
    payload = payload.0;
    answer = answer.0;
    signature = signature.0;
  })

-- a state that is a store's spelling, after its length, and the bytes after it
unfoldable pub state_at : List ℕ → Reading (List ℕ × List ℕ)
state_at bytes = do
  len ← number_at tt w32 bytes
  state ← bytes_at tt len.0 len.1
  _ ← store_of state.0
  Ok state

-- the state record that the bytes spell, all of them
unfoldable pub state_record_of : List ℕ → Reading StateRecord
state_record_of bytes = do
  signer ← small_at last_process bytes
  view ← short_at signer.1
  state ← state_at view.1
  signature ← text_within most_signature_bytes state.1
  _ ← refuse_if (nat_lt 0 (length signature.1)) tt
  Ok (record { signer = signer.0; view = view.0; state = state.0; signature = signature.0 })
