-- The replicated store: a finite map, what its commands do and answer, and how it is spelled and read. A request is a tag of 8 bytes, which
-- the client chooses, and one command. KEY is a length of one byte, 1 to 64, and that many bytes; VALUE a length of two bytes, 0 to 512,
-- and that many bytes.
--   01 KEY VALUE         the key is set to the value: 00; but where the store has 4,096 keys and this one is not among them: 04
--   02 KEY               its value: 01 and the value
--   03 KEY               the key is removed: 00
--   04 KEY VALUE VALUE   the key is set to the second value, where its value is the first: 00; where it is another: 05 and that value
-- Without the key, 02, 03 and 04 answer 02. Any other bytes change nothing and answer 03.
-- Names here (* for this crate alone):
--   Pair, Store, empty
--   limits: most_keys, most_key_bytes, most_value_bytes, tag_bytes
--   the map: is_of_key, value_of, with_pair, without
--   commands and answers: Command, Answer, answer_bytes, found, missed, key_of, carried_out
--   how a request is read; there is one fault: Reading, key_at, text_within, value_at, set_at, exchange_at, command_behind, request_of,
--     applied, answer_to, store_after
--   how a store is spelled: the number of its keys in two bytes, and each key after a length of one byte, with its value after a length:
--     pair_bytes, store_bytes, pairs_at, store_of
--   what has a spelling: IsPair, AreRising, IsStore
use Rattle.std.specs.Prelude.{◌≡◌, ◌⊎◌, ℕ, zero, suc, ◌≤◌, ◌==◌, not, nat_lt, if◌then◌else◌, Bool, true, List, [], ◌∷◌, ◌++◌, length, filter, find, Option, Some, None, option_map, is_some, Result, Ok, Err}
use Rattle.std.specs.List.{flat_map, AllByRecursion}
use Rattle.std.specs.Int.{w8, w16}
use Rattle.byte_defs.specs.Equality.{same_bytes}
use Rattle.byte_defs.specs.Fields.{◌>>=◌, refuse_if, number_at, bytes_at, two_bytes, text}
use Rattle.byte_defs.specs.Orders.{numbers_below}

-- a key with its value
abbrev pub Pair : Type 0
Pair = List ℕ × List ℕ

-- by strictly rising keys, byte by byte; so two stores with the same values are the same list
abbrev pub Store : Type 0
Store = List Pair

abbrev pub empty : Store
empty = []

-- ---- limits

unfoldable pub most_keys : ℕ
most_keys = 4096

abbrev pub most_key_bytes : ℕ
most_key_bytes = 64

abbrev pub most_value_bytes : ℕ
most_value_bytes = 512

-- the letters of a tag
abbrev pub tag_bytes : ℕ
tag_bytes = 8

-- ---- the map

-- the pair has this key
abbrev pub is_of_key : List ℕ → Pair → Bool
is_of_key key e = same_bytes e.0 key

-- the value of a key, where the store has it
abbrev pub value_of : List ℕ → Store → Option (List ℕ)
value_of key s = option_map (λ e. e.1) (find (is_of_key key) s)

-- the store with this value of the key: before the first greater key, or in the place of the key's pair
unfoldable pub with_pair : List ℕ → List ℕ → Store → Store
with_pair key value [] = (key, value) ∷ []
with_pair key value (e ∷ s) =
    if numbers_below key e.0 then (key, value) ∷ e ∷ s else if same_bytes e.0 key then (key, value) ∷ s else e ∷ with_pair key value s

-- the store without the key
abbrev pub without : List ℕ → Store → Store
without key s = filter (λ e. not (is_of_key key e)) s

-- ---- commands and answers

pub data Command : Type 0 where
  Set : (key value : List ℕ) → Command
  Get : (key : List ℕ) → Command
  Remove : (key : List ℕ) → Command
  -- where its value is the expected one
  Exchange : (key expected value : List ℕ) → Command

pub data Answer : Type 0 where
  Done : Answer
  Value : (value : List ℕ) → Answer
  Absent : Answer
  NoCommand : Answer
  Full : Answer
  -- the value in the store
  Differs : (value : List ℕ) → Answer

abbrev pub answer_bytes : Answer → List ℕ
answer_bytes Done = 0 ∷ []
answer_bytes (Value value) = 1 ∷ value
answer_bytes Absent = 2 ∷ []
answer_bytes NoCommand = 3 ∷ []
answer_bytes Full = 4 ∷ []
answer_bytes (Differs value) = 5 ∷ value

-- what a command that found a value answers, and leaves
abbrev pub found : Command → List ℕ → Store → Answer × Store
found (Set key value) old s = (Done, with_pair key value s)
found (Get key) old s = (Value old, s)
found (Remove key) old s = (Done, without key s)
found (Exchange key expected value) old s = if same_bytes old expected then (Done, with_pair key value s) else (Differs old, s)

-- and where the store has no such key
abbrev pub missed : Command → Store → Answer × Store
missed (Set key value) s = if length s == most_keys then (Full, s) else (Done, with_pair key value s)
missed (Get key) s = (Absent, s)
missed (Remove key) s = (Absent, s)
missed (Exchange key expected value) s = (Absent, s)

abbrev pub key_of : Command → List ℕ
key_of (Set key value) = key
key_of (Get key) = key
key_of (Remove key) = key
key_of (Exchange key expected value) = key

-- what the command answers, and the store after it
unfoldable pub carried_out : Command → Store → Answer × Store
carried_out c s = elim (value_of (key_of c) s) [ None ↦ missed c s | Some old ↦ found c old s ]

-- ---- how a request is read; there is one fault

abbrev pub Reading : Type 0 → Type 0
Reading A = Result A (Unit {0})

-- 1 to 64 bytes after their length, and the bytes after them
unfoldable pub key_at : List ℕ → Reading (List ℕ × List ℕ)
key_at bytes = do
  len ← number_at tt w8 bytes
  _ ← refuse_if (len.0 == 0) tt
  _ ← refuse_if (nat_lt most_key_bytes len.0) tt
  bytes_at tt len.0 len.1

-- at most `most` bytes after their length, and the bytes after them
unfoldable pub text_within : ℕ → List ℕ → Reading (List ℕ × List ℕ)
text_within most bytes = do
  len ← number_at tt w16 bytes
  _ ← refuse_if (nat_lt most len.0) tt
  bytes_at tt len.0 len.1

-- a value, and the bytes after it
abbrev pub value_at : List ℕ → Reading (List ℕ × List ℕ)
value_at bytes = text_within most_value_bytes bytes

-- the value of a `Set`, and the bytes after it
unfoldable pub set_at : List ℕ → List ℕ → Reading (Command × List ℕ)
set_at key bytes = do
  value ← value_at bytes
  Ok (Set key value.0, value.1)

-- the two values of an `Exchange`, and the bytes after them
unfoldable pub exchange_at : List ℕ → List ℕ → Reading (Command × List ℕ)
exchange_at key bytes = do
  expected ← value_at bytes
  value ← value_at expected.1
  Ok (Exchange key expected.0 value.0, value.1)

-- what comes after the byte of a command and its key, and the bytes after it
unfoldable pub command_behind : ℕ → List ℕ → List ℕ → Reading (Command × List ℕ)
command_behind what key bytes =
    if what == 1 then set_at key bytes
    else if what == 2 then Ok (Get key, bytes)
    else if what == 3 then Ok (Remove key, bytes)
    else if what == 4 then exchange_at key bytes
    else Err tt

-- the command of a payload that is a request, all of it
unfoldable pub request_of : List ℕ → Reading Command
request_of payload = do
  tag ← bytes_at tt tag_bytes payload
  what ← number_at tt w8 tag.1
  key ← key_at what.1
  command ← command_behind what.0 key.0 key.1
  _ ← refuse_if (nat_lt 0 (length command.1)) tt
  Ok command.0

-- what a payload answers, and the store after it
unfoldable pub applied : Store → List ℕ → Answer × Store
applied s payload = elim (request_of payload) [ Ok c ↦ carried_out c s | Err fault ↦ (NoCommand, s) ]

-- the bytes of the answer to a payload
abbrev pub answer_to : Store → List ℕ → List ℕ
answer_to s payload = answer_bytes (applied s payload).0

-- the store after these payloads, one after the other
unfoldable pub store_after : Store → List (List ℕ) → Store
store_after s [] = s
store_after s (payload ∷ payloads) = store_after (applied s payload).1 payloads

-- ---- how a store is spelled: the number of its keys in two bytes, and each key after a length of one byte, with its value after a length
-- of two

abbrev pub pair_bytes : Pair → List ℕ
pair_bytes e = length e.0 ∷ (e.0 ++ text e.1)

unfoldable pub store_bytes : Store → List ℕ
store_bytes s = two_bytes (length s) ++ flat_map pair_bytes s

-- n pairs, each of a key above the one before it, and the bytes after them
unfoldable pub pairs_at : ℕ → List ℕ → List ℕ → Reading (Store × List ℕ)
pairs_at zero before bytes = Ok ([], bytes)
pairs_at (suc n) before bytes = do
  key ← key_at bytes
  _ ← refuse_if (not (numbers_below before key.0)) tt
  value ← value_at key.1
  others ← pairs_at n key.0 value.1
  Ok ((key.0, value.0) ∷ others.0, others.1)

-- the store that the bytes spell, all of them. A key has a byte at least, so it is above no bytes
unfoldable pub store_of : List ℕ → Reading Store
store_of bytes = do
  count ← number_at tt w16 bytes
  _ ← refuse_if (nat_lt most_keys count.0) tt
  pairs ← pairs_at count.0 [] count.1
  _ ← refuse_if (nat_lt 0 (length pairs.1)) tt
  Ok pairs.0

-- ---- what has a spelling

-- a key and a value of their lengths
pub record IsPair (e : Pair) : Type 0 where
  pub some : 1 ≤ length e.0
  pub key : length e.0 ≤ most_key_bytes
  pub value : length e.1 ≤ most_value_bytes

-- each key is above the one before it, the first above this one
abbrev pub AreRising : List ℕ → Store → Type 0
AreRising before [] = Unit {0}
AreRising before (e ∷ s) = (numbers_below before e.0 ≡ true) × AreRising e.0 s

-- a store within its limits
pub record IsStore (s : Store) : Type 0 where
  pub count : length s ≤ most_keys
  pub rising : AreRising [] s
  pub each : AllByRecursion IsPair s
