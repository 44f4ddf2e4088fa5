-- What a line about a store says, in words. After such a line come lines of two blanks and these words:
--   deliver P X K S L HEX     the request: put 7 "a" "b"; or no request
--   reply P HEX               where and what was answered: view 0 place 0 position 0 : put 7 "a" "b" : done
--   state P HEX               the view, and then each key with its value: the store of view 1, "a" is "b"
--   answer X K I HEX          what was answered: value "b"
-- and a sentence each where a process has no reply or state to give, where a state is taken or refused, and where there is no answer. Any other
-- line says nothing. Requests are written as a story writes its words, so one that follows a process is read as the request.
-- Names here (* for this crate alone):
--   reported_line, one_line, sentence
--   requests: read_tokens, payload_tokens, sixth*, deliver_lines*
--   replies: reply_tokens, no_reply*, perhaps, reply_or, reply_said, reply_lines*
--   states: pair_tokens, store_head, store_lines, state_lines, state_from*, state_by, no_state*, refusal*, offered*, state_or,
--     state_said, three*, offer_lines*, given_or*, given_lines*
--   answers: fourth*, no_answer*, answer_or*, answer_lines*
--   a line: lines_by, meaning
use Rattle.std.specs.Prelude.{ℕ, ◌==◌, if◌then◌else◌, List, [], ◌∷◌, ◌++◌, map, codes, Option, Some, None, option_map, Ok, Err}
use Rattle.std.specs.List.{flat_map}
use Rattle.std.specs.Option.{option_map_or, unwrap_or}
use Rattle.std.specs.Result.{result_ok}
use Rattle.byte_defs.specs.Choices.{and_then, first_that_holds}
use Rattle.byte_defs.specs.Equality.{same_bytes}
use Rattle.text_defs.specs.Words.{line_feed, words_of, process_of}
use Rattle.story_defs.specs.Texts.{Token, Word, Bytes, number}
use Rattle.story_defs.specs.Words.{hex_word}
use Rattle.store_defs.specs.Stores.{Command, Pair, Reading, Store, request_of, store_of}
use Rattle.store_defs.specs.Records.{Reply, StateRecord, state_record_of}
use Rattle.store_defs.specs.Words.{some_bytes_of}
use Rattle.store_defs.specs.Asking.{record_by}
use Rattle.store_text_defs.specs.Requests.{asked_tokens, both, only, tag_of, reported}
use Rattle.store_text_defs.specs.Answers.{said_tokens}

-- a line of these tokens, after two blanks
abbrev pub reported_line : List Token → List ℕ
reported_line tokens = codes "  " ++ (reported tokens ++ line_feed ∷ [])

-- one line, of these words
abbrev pub one_line : List Token → List (List Token)
one_line tokens = tokens ∷ []

abbrev pub sentence : List ℕ → List Token
sentence text = Word text ∷ []

-- ---- requests

-- of a payload with this tag, which was read so
abbrev pub read_tokens : ℕ → Reading Command → List Token
read_tokens tag (Ok c) = asked_tokens tag c
read_tokens tag (Err fault) = Word (codes "no") ∷ Word (codes "request") ∷ []

-- what a payload asks of the store
abbrev pub payload_tokens : List ℕ → List Token
payload_tokens payload = read_tokens (tag_of payload) (request_of payload)

-- the payload's word among those after `deliver`
abbrev pub sixth : List (List ℕ) → Option (List ℕ)
sixth (p ∷ x ∷ k ∷ s ∷ l ∷ payload ∷ []) = Some payload
sixth _ = None

-- the words after `deliver`
abbrev pub deliver_lines : List (List ℕ) → List (List Token)
deliver_lines words = option_map_or (λ bytes. one_line (payload_tokens bytes)) (and_then (sixth words) hex_word) []

-- ---- replies

abbrev pub reply_tokens : Reply → List Token
reply_tokens r =
    Word (codes "view") ∷ number r.view ∷ Word (codes "place") ∷ number r.place ∷ Word (codes "position") ∷ number r.position
    ∷ Word (codes ":") ∷ (payload_tokens r.payload ++ Word (codes ":") ∷ said_tokens r.answer)

-- a word in place of a record
abbrev pub no_reply : List ℕ → Option (List ℕ)
no_reply word = first_that_holds (
    (same_bytes word (codes "none"), codes "the process does not hold the store")
    ∷ (same_bytes word (codes "spent"), codes "the key of its replies is spent") ∷ [])

-- a sentence, where there is one
abbrev pub perhaps : Option (List ℕ) → List (List Token)
perhaps text = option_map_or (λ t. one_line (sentence t)) text []

-- the reply that a word spells, or what the word says in its place
abbrev pub reply_or : List ℕ → Option Reply → List (List Token)
reply_or word (Some r) = one_line (reply_tokens r)
reply_or word None = perhaps (no_reply word)

-- what a process replied
abbrev pub reply_said : ℕ → List ℕ → List (List Token)
reply_said p word = reply_or word (record_by p word)

-- the words after `reply`
abbrev pub reply_lines : List (List ℕ) → List (List Token)
reply_lines words = option_map_or (λ w. option_map_or (λ p. reply_said p w.1) (process_of w.0) []) (both words) []

-- ---- states

abbrev pub pair_tokens : Pair → List Token
pair_tokens e = Bytes e.0 ∷ Word (codes "is") ∷ Bytes e.1 ∷ []

-- the view that it is of
abbrev pub store_head : ℕ → List Token
store_head x = Word (codes "the") ∷ Word (codes "store") ∷ Word (codes "of") ∷ Word (codes "view") ∷ number x ∷ []

-- and each key with its value
abbrev pub store_lines : ℕ → Store → List (List Token)
store_lines x s = store_head x ∷ map pair_tokens s

-- the store that a record spells
abbrev pub state_lines : StateRecord → List (List Token)
state_lines r = option_map_or (store_lines r.view) (result_ok (store_of r.state)) []

-- a state record of this process, as bytes and as a word
abbrev pub state_from : ℕ → List ℕ → Option StateRecord
state_from p bytes = and_then (result_ok (state_record_of bytes)) (λ r. if r.signer == p then Some r else None)

abbrev pub state_by : ℕ → List ℕ → Option StateRecord
state_by p word = and_then (some_bytes_of word) (state_from p)

-- a word in place of a record: nothing was given, or one was offered
abbrev pub no_state : List ℕ → Option (List ℕ)
no_state word = first_that_holds (
    (same_bytes word (codes "none"), codes "the process did not hold the store when the view began")
    ∷ (same_bytes word (codes "spent"), codes "the key of its states is spent")
    ∷ (same_bytes word (codes "ready"), codes "enough members gave this state: the process holds the store") ∷ [])

abbrev pub refusal : List ℕ → Option (List ℕ)
refusal word = first_that_holds (
    (same_bytes word (codes "grammar"), codes "refused: the bytes are no record of a state")
    ∷ (same_bytes word (codes "held"), codes "refused: the process holds the store")
    ∷ (same_bytes word (codes "view"), codes "refused: it is of another view, or the process is no member of its own")
    ∷ (same_bytes word (codes "stranger"), codes "refused: its signer is no member")
    ∷ (same_bytes word (codes "unsigned"), codes "refused: its signature is not valid under the key that was handed in, or none was")
    ∷ (same_bytes word (codes "known"), codes "refused: its signer is counted") ∷ [])

-- what two words say of an offer
abbrev pub offered : List ℕ → List ℕ → Option (List Token)
offered word more =
    if same_bytes word (codes "taken") then Some (Word (codes "members that gave this state:") ∷ Word more ∷ [])
    else (if same_bytes word (codes "refused") then option_map sentence (refusal more) else None)

-- the state that a word spells, or what the word says in its place
abbrev pub state_or : List ℕ → Option StateRecord → List (List Token)
state_or word (Some r) = state_lines r
state_or word None = perhaps (no_state word)

-- what a process gave, or made of an offer in one word
abbrev pub state_said : ℕ → List ℕ → List (List Token)
state_said p word = state_or word (state_by p word)

-- three words
abbrev pub three : List (List ℕ) → Option (List ℕ × List ℕ × List ℕ)
three (first ∷ second ∷ third ∷ []) = Some (first, second, third)
three _ = None

-- of a process, and two words of an offer
abbrev pub offer_lines : List ℕ × List ℕ × List ℕ → List (List Token)
offer_lines w = option_map_or one_line (and_then (process_of w.0) (λ p. offered w.1 w.2)) []

-- of a process and a word, where these are all, or of an offer
abbrev pub given_or : List (List ℕ) → Option (List ℕ × List ℕ) → List (List Token)
given_or words (Some w) = option_map_or (λ p. state_said p w.1) (process_of w.0) []
given_or words None = option_map_or offer_lines (three words) []

-- the words after `state`
abbrev pub given_lines : List (List ℕ) → List (List Token)
given_lines words = given_or words (both words)

-- ---- answers

-- the answer's word among those after `answer`
abbrev pub fourth : List (List ℕ) → Option (List ℕ)
fourth (x ∷ k ∷ i ∷ word ∷ []) = Some word
fourth _ = None

-- a word in the place of an answer
abbrev pub no_answer : List ℕ → Option (List ℕ)
no_answer word = if same_bytes word (codes "none") then Some (codes "not enough members gave one answer") else None

-- of an answer's word, or of one in its place
abbrev pub answer_or : List (List ℕ) → Option (List ℕ) → List (List Token)
answer_or words (Some word) = option_map_or (λ answer. one_line (said_tokens answer)) (some_bytes_of word) []
answer_or words None = perhaps (and_then (only words) no_answer)

-- the words after `answer`
abbrev pub answer_lines : List (List ℕ) → List (List Token)
answer_lines words = answer_or words (fourth words)

-- ---- a line

-- what the words of a line say
abbrev pub lines_by : List (List ℕ) → List (List Token)
lines_by [] = []
lines_by (word ∷ words) = unwrap_or (first_that_holds (
    (same_bytes word (codes "deliver"), deliver_lines words)
    ∷ (same_bytes word (codes "reply"), reply_lines words)
    ∷ (same_bytes word (codes "state"), given_lines words)
    ∷ (same_bytes word (codes "answer"), answer_lines words) ∷ [])) []

-- what is written after a line
unfoldable pub meaning : List ℕ → List ℕ
meaning line = flat_map reported_line (lines_by (words_of line))
