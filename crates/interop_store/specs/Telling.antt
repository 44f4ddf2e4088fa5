-- What is written of payloads that a store carries out, and of bytes as a record.
-- Names here (* for this crate alone):
--   words: number_next*, bytes_next*
--   payloads: payloads_in*, answer_words*, apply_words*
--   replies: position_words*, content_words*, reply_words*, reply_said*, reply_answer*
--   states: state_words*, state_said*, state_answer*
use Rattle.std.specs.Prelude.{ℕ, List, [], ◌∷◌, ◌++◌, map, Vec, codes, Ok, Err}
use Rattle.std.specs.Fmt.{decimal}
use Rattle.std.specs.declared.alloc.Global.{Global}
use Rattle.text_defs.specs.Words.{bytes_word, space}
use Rattle.store_defs.specs.Stores.{Reading, Store, answer_to, applied, empty, store_after, store_bytes}
use Rattle.store_defs.specs.Records.{Reply, StateRecord, reply_of, state_record_of}

-- ---- words

-- a number as the next word of a line
abbrev pub number_next : ℕ → List ℕ
number_next n = space ∷ decimal n

-- bytes as the next word
abbrev pub bytes_next : List ℕ → List ℕ
bytes_next bytes = space ∷ bytes_word bytes

-- ---- payloads

abbrev pub payloads_in : List (Vec ℕ Global) → List (List ℕ)
payloads_in payloads = map (λ p. p.items) payloads

-- the answer to each payload, by the store that those before it left
abbrev pub answer_words : Store → List (List ℕ) → List ℕ
answer_words s [] = []
answer_words s (payload ∷ payloads) = bytes_next (answer_to s payload) ++ answer_words (applied s payload).1 payloads

-- `applied`, the answer to each payload of a store that has no key before the first one, `state` and its state after the last one
abbrev pub apply_words : List (List ℕ) → List ℕ
apply_words payloads =
    codes "applied" ++ (answer_words empty payloads ++ (codes " state" ++ bytes_next (store_bytes (store_after empty payloads))))

-- ---- replies

-- the signer, the view, the place and the position
abbrev pub position_words : Reply → List ℕ
position_words r = number_next r.signer ++ (number_next r.view ++ (number_next r.place ++ number_next r.position))

-- the payload, the answer and the signature
abbrev pub content_words : Reply → List ℕ
content_words r = bytes_next r.payload ++ (bytes_next r.answer ++ bytes_next r.signature)

abbrev pub reply_words : Reply → List ℕ
reply_words r = codes "reply" ++ (position_words r ++ content_words r)

-- of what was read, or `noreply`
abbrev pub reply_said : Reading Reply → List ℕ
reply_said (Ok r) = reply_words r
reply_said (Err fault) = codes "noreply"

abbrev pub reply_answer : List ℕ → List ℕ
reply_answer bytes = reply_said (reply_of bytes)

-- ---- states

-- the signer, the view, the state and the signature
abbrev pub state_words : StateRecord → List ℕ
state_words r = codes "state" ++ (number_next r.signer ++ (number_next r.view ++ (bytes_next r.state ++ bytes_next r.signature)))

-- of what was read, or `nostate`
abbrev pub state_said : Reading StateRecord → List ℕ
state_said (Ok r) = state_words r
state_said (Err fault) = codes "nostate"

abbrev pub state_answer : List ℕ → List ℕ
state_answer bytes = state_said (state_record_of bytes)
