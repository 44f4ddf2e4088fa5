-- The script lines of a node that serves, and the lines that it writes.
--   P give               asks P for its store at the beginning of its view
--   P state HEX          offers a state record to P; the line has at most 8,388,608 bytes
--   P statekey Q HEX     hands P the state key of Q, which is of the roster
-- It writes `replykey P HEX` for each process that it hosts, then `statekey P HEX` for each, after the host lines; `reply P` and a record,
-- `spent` or `none` after each `deliver` line of P; and `state P` and a record, `spent`, `none`, `ready`, `taken C` or `refused WORD`.
-- Names here (* for this crate alone):
--   what a line says: most_state_line_bytes, some_bytes_of, Word, give_by*, state_by*, listed_process, state_key_by*, word_by
--   what is written: reply_key_text, state_key_text, reply_word*, reported_text, state_word*, given_text, offer_words*, offered_text
use Rattle.std.specs.Prelude.{ℕ, ◌/◌, ◌*◌, ◌==◌, ◌&&◌, nat_le, if◌then◌else◌, Bool, List, [], ◌∷◌, ◌++◌, length, codes, Option, Some, None, option_map}
use Rattle.std.specs.Option.{option_flatten}
use Rattle.std.specs.Fmt.{decimal}
use Rattle.hex.specs.Hex.{encode_lower}
use Rattle.byte_defs.specs.Choices.{first_that_holds, and_then}
use Rattle.byte_defs.specs.Equality.{same_bytes}
use Rattle.byte_defs.specs.Members.{has}
use Rattle.signature_defs.specs.Schemes.{Scheme}
use Rattle.text_defs.specs.Words.{line_text, process_of, bytes_of}
use Rattle.kit_defs.specs.Kits.{key_length}
use Rattle.store_defs.specs.Records.{reply_bytes, state_bytes}
use Rattle.store_defs.specs.Serving.{ReplyWord, Signed, NoLeaf, NoStore, Reported, Nothing, ReportedReply, StateWord, Given, NoStateLeaf, NoState, OfferWord, Grammar, Held, OtherView, Stranger, Unsigned, Known, Ready, TakenSoFar}

-- ---- what a line says

-- how many bytes a line with a state may have
unfoldable pub most_state_line_bytes : ℕ
most_state_line_bytes = 8388608

-- one byte or more in lower-case hexadecimal
abbrev pub some_bytes_of : List ℕ → Option (List ℕ)
some_bytes_of word = if nat_le 2 (length word) then bytes_of (length word / 2) word else None

-- what a line says to a process
pub data Word : Type 0 where
  Give : Word
  State : (bytes : List ℕ) → Word
  StateKey : (process : ℕ) (key : List ℕ) → Word

-- the words after `P give`
abbrev pub give_by : List (List ℕ) → Option Word
give_by [] = Some Give
give_by _ = None

-- after `P state`
abbrev pub state_by : List (List ℕ) → Option Word
state_by (word ∷ []) = option_map State (some_bytes_of word)
state_by _ = None

-- a process of the roster
abbrev pub listed_process : List ℕ → List ℕ → Option ℕ
listed_process roster word = and_then (process_of word) (λ p. if has roster p then Some p else None)

-- after `P statekey`, in a kit of this scheme and roster
abbrev pub state_key_by : Scheme → List ℕ → List (List ℕ) → Option Word
state_key_by scheme roster (process ∷ key ∷ []) =
    and_then (listed_process roster process) (λ p. option_map (StateKey p) (bytes_of (key_length scheme) key))
state_key_by scheme roster _ = None

-- what the words of a line say, after its process
unfoldable pub word_by : Scheme → List ℕ → List (List ℕ) → Option Word
word_by scheme roster [] = None
word_by scheme roster (word ∷ words) = option_flatten (first_that_holds (
    (same_bytes word (codes "give"), give_by words)
    ∷ (same_bytes word (codes "state"), state_by words)
    ∷ (same_bytes word (codes "statekey"), state_key_by scheme roster words) ∷ []))

-- ---- what is written

abbrev pub reply_key_text : ℕ → List ℕ → List ℕ
reply_key_text p key = line_text (codes "replykey" ∷ decimal p ∷ encode_lower key ∷ [])

abbrev pub state_key_text : ℕ → List ℕ → List ℕ
state_key_text p key = line_text (codes "statekey" ∷ decimal p ∷ encode_lower key ∷ [])

abbrev pub reply_word : ReplyWord → List ℕ
reply_word (Signed reply) = encode_lower (reply_bytes reply)
reply_word NoLeaf = codes "spent"
reply_word NoStore = codes "none"

-- after a note of a process
unfoldable pub reported_text : ℕ → Reported → List ℕ
reported_text p Nothing = []
reported_text p (ReportedReply word) = line_text (codes "reply" ∷ decimal p ∷ reply_word word ∷ [])

abbrev pub state_word : StateWord → List ℕ
state_word (Given r) = encode_lower (state_bytes r)
state_word NoStateLeaf = codes "spent"
state_word NoState = codes "none"

-- after `P give`
unfoldable pub given_text : ℕ → StateWord → List ℕ
given_text p word = line_text (codes "state" ∷ decimal p ∷ state_word word ∷ [])

abbrev pub offer_words : OfferWord → List (List ℕ)
offer_words Grammar = codes "refused" ∷ codes "grammar" ∷ []
offer_words Held = codes "refused" ∷ codes "held" ∷ []
offer_words OtherView = codes "refused" ∷ codes "view" ∷ []
offer_words Stranger = codes "refused" ∷ codes "stranger" ∷ []
offer_words Unsigned = codes "refused" ∷ codes "unsigned" ∷ []
offer_words Known = codes "refused" ∷ codes "known" ∷ []
offer_words Ready = codes "ready" ∷ []
offer_words (TakenSoFar n) = codes "taken" ∷ decimal n ∷ []

-- after `P state HEX`
unfoldable pub offered_text : ℕ → OfferWord → List ℕ
offered_text p word = line_text (codes "state" ∷ decimal p ∷ offer_words word)
