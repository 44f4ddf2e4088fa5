-- A request in words, and the line that submits it.
--   P put TAG KEY VALUE        process P is to submit: the key is set to the value
--   P get TAG KEY              its value is asked for
--   P remove TAG KEY           the key is removed
--   P swap TAG KEY OLD NEW     the key is set to the new value, where its value is the old one
-- P is a process, TAG a number below 2^64, a key 1 to 64 bytes, a value at most 512. Bytes are quoted or in hexadecimal, as in stories, and the
-- words are read as those of a story's line. The request has at most 1,024 bytes, as each payload has.
-- Names here (* for this crate alone):
--   Request, last_tag
--   its bytes: command_bytes, request_bytes, tag_of
--   how it is written: verb_of, command_tokens, asked_tokens, request_tokens, reported
--   how it is read: key_by, value_by, only*, both*, set_by*, get_by*, remove_by*, values_by*, exchange_by*, command_by, asked_by,
--     if_short, request_by, request_in
--   the lines: is_verb, asks_by, asks, submit_line
--   what has a spelling: IsKey, IsValue, IsCommand, IsRequest
use Rattle.std.specs.Prelude.{ℕ, ◌-◌, ◌^◌, ◌<◌, ◌≤◌, ◌==◌, nat_le, if◌then◌else◌, Bool, false, List, [], ◌∷◌, ◌++◌, length, map, codes, take, Option, Some, None, option_map}
use Rattle.std.specs.Option.{option_flatten}
use Rattle.std.specs.Result.{result_ok}
use Rattle.std.specs.List.{join_with_byte, list_any}
use Rattle.std.specs.Int.{w64, from_be_bytes, to_be_bytes}
use Rattle.std.specs.Fmt.{decimal}
use Rattle.hex.specs.Hex.{IsBytes, encode_lower}
use Rattle.byte_defs.specs.Choices.{and_then, first_that_holds}
use Rattle.byte_defs.specs.Equality.{same_bytes}
use Rattle.byte_defs.specs.Fields.{text}
use Rattle.text_defs.specs.Words.{space, words_of, line_text, number_within, process_of}
use Rattle.message_defs.specs.Limits.{most_payload_bytes}
use Rattle.story_defs.specs.PlainLines.{plain_line}
use Rattle.story_defs.specs.Texts.{Token, Word, Bytes, number, shown}
use Rattle.story_defs.specs.Words.{payload_of}
use Rattle.store_defs.specs.Stores.{Command, Set, Get, Remove, Exchange, most_key_bytes, most_value_bytes, tag_bytes}

-- who is to submit it, the tag that the client chooses, and the command
pub record Request : Type 0 where
  pub process : ℕ
  pub tag : ℕ
  pub command : Command

-- the greatest tag
unfoldable pub last_tag : ℕ
last_tag = 2 ^ 64 - 1

-- ---- its bytes

abbrev pub command_bytes : Command → List ℕ
command_bytes (Set key value) = 1 ∷ length key ∷ (key ++ text value)
command_bytes (Get key) = 2 ∷ length key ∷ key
command_bytes (Remove key) = 3 ∷ length key ∷ key
command_bytes (Exchange key expected value) = 4 ∷ length key ∷ (key ++ (text expected ++ text value))

-- the tag in eight bytes, and the command
abbrev pub request_bytes : ℕ → Command → List ℕ
request_bytes tag c = to_be_bytes w64 tag ++ command_bytes c

-- the tag of a payload
abbrev pub tag_of : List ℕ → ℕ
tag_of payload = from_be_bytes w64 (take tag_bytes payload)

-- ---- how it is written

-- the word of a command
abbrev pub verb_of : Command → List ℕ
verb_of (Set key value) = codes "put"
verb_of (Get key) = codes "get"
verb_of (Remove key) = codes "remove"
verb_of (Exchange key expected value) = codes "swap"

-- what is written of it after its tag
abbrev pub command_tokens : Command → List Token
command_tokens (Set key value) = Bytes key ∷ Bytes value ∷ []
command_tokens (Get key) = Bytes key ∷ []
command_tokens (Remove key) = Bytes key ∷ []
command_tokens (Exchange key expected value) = Bytes key ∷ Bytes expected ∷ Bytes value ∷ []

-- a command with its tag
abbrev pub asked_tokens : ℕ → Command → List Token
asked_tokens tag c = Word (verb_of c) ∷ number tag ∷ command_tokens c

abbrev pub request_tokens : Request → List Token
request_tokens r = number r.process ∷ asked_tokens r.tag r.command

-- tokens as they are written, with one space between them
abbrev pub reported : List Token → List ℕ
reported tokens = join_with_byte space (map shown tokens)

-- ---- how it is read

-- the bytes of a key
abbrev pub key_by : List ℕ → Option (List ℕ)
key_by word = and_then (payload_of most_key_bytes word) (λ key. if length key == 0 then None else Some key)

-- the bytes of a value
abbrev pub value_by : List ℕ → Option (List ℕ)
value_by word = payload_of most_value_bytes word

-- the word, where there is just one, and both, where there are two
abbrev pub only : List (List ℕ) → Option (List ℕ)
only (word ∷ []) = Some word
only _ = None

abbrev pub both : List (List ℕ) → Option (List ℕ × List ℕ)
both (first ∷ second ∷ []) = Some (first, second)
both _ = None

-- of the words after the key
abbrev pub set_by : List ℕ → List (List ℕ) → Option Command
set_by key words = and_then (only words) (λ word. option_map (Set key) (value_by word))

abbrev pub get_by : List ℕ → List (List ℕ) → Option Command
get_by key words = if length words == 0 then Some (Get key) else None

abbrev pub remove_by : List ℕ → List (List ℕ) → Option Command
remove_by key words = if length words == 0 then Some (Remove key) else None

-- the old value and the new one
abbrev pub values_by : List ℕ → List ℕ → Option (List ℕ × List ℕ)
values_by old new = and_then (value_by old) (λ expected. option_map (λ value. (expected, value)) (value_by new))

abbrev pub exchange_by : List ℕ → List (List ℕ) → Option Command
exchange_by key words = and_then (both words) (λ w. option_map (λ v. Exchange key v.0 v.1) (values_by w.0 w.1))

-- the command of this word and key, and of the words after the key
abbrev pub command_by : List ℕ → List ℕ → List (List ℕ) → Option Command
command_by verb key words = option_flatten (first_that_holds (
    (same_bytes verb (codes "put"), set_by key words)
    ∷ (same_bytes verb (codes "get"), get_by key words)
    ∷ (same_bytes verb (codes "remove"), remove_by key words)
    ∷ (same_bytes verb (codes "swap"), exchange_by key words) ∷ []))

-- the tag and the command of these words
abbrev pub asked_by : List ℕ → List ℕ → List ℕ → List (List ℕ) → Option (ℕ × Command)
asked_by verb tag key words =
    and_then (number_within 0 last_tag tag) (λ t. and_then (key_by key) (λ k. option_map (λ c. (t, c)) (command_by verb k words)))

-- where it has no more bytes than a payload
abbrev pub if_short : Request → Option Request
if_short r = if nat_le (length (request_bytes r.tag r.command)) most_payload_bytes then Some r else None

-- the request of these words
abbrev pub request_by : List (List ℕ) → Option Request
request_by (process ∷ verb ∷ tag ∷ key ∷ words) =
    and_then (process_of process) (λ p.
    and_then (asked_by verb tag key words) (λ a. if_short (record { process = p; tag = a.0; command = a.1 })))
request_by _ = None

-- the request of a line
unfoldable pub request_in : List ℕ → Option Request
request_in line = and_then (result_ok (plain_line line)) (λ plain. request_by (words_of plain))

-- ---- the lines

-- the word begins a request, after its process
abbrev pub is_verb : List ℕ → Bool
is_verb word = list_any (same_bytes word) (codes "put" ∷ codes "get" ∷ codes "remove" ∷ codes "swap" ∷ [])

-- a line asks for a request where the second of its words is one of the four
abbrev pub asks_by : List (List ℕ) → Bool
asks_by (process ∷ verb ∷ words) = is_verb verb
asks_by _ = false

unfoldable pub asks : List ℕ → Bool
asks line = asks_by (words_of line)

-- the line that submits it
abbrev pub submit_line : Request → List ℕ
submit_line r = line_text (decimal r.process ∷ codes "submit" ∷ encode_lower (request_bytes r.tag r.command) ∷ [])

-- ---- what has a spelling

-- a key, or a value, of its length
pub record IsKey (key : List ℕ) : Type 0 where
  pub some : 1 ≤ length key
  pub most : length key ≤ most_key_bytes
  pub bytes : IsBytes key

pub record IsValue (value : List ℕ) : Type 0 where
  pub most : length value ≤ most_value_bytes
  pub bytes : IsBytes value

abbrev pub IsCommand : Command → Type 0
IsCommand (Set key value) = IsKey key × IsValue value
IsCommand (Get key) = IsKey key
IsCommand (Remove key) = IsKey key
IsCommand (Exchange key expected value) = IsKey key × IsValue expected × IsValue value

pub record IsRequest (r : Request) : Type 0 where
  pub process : r.process ≤ 63
  pub tag : r.tag < 2 ^ 64
  pub command : IsCommand r.command
  pub most : length (request_bytes r.tag r.command) ≤ most_payload_bytes
