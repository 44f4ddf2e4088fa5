-- What holds of requests in words, of payloads and answers put in words, and of filters.
use Rattle.std.specs.Prelude.{◌≡◌, ℕ, ◌^◌, ◌<◌, List, Some, Ok}
use Rattle.store_defs.specs.Stores.{Answer, Command, answer_bytes, request_of}
use Rattle.store_text_defs.specs.declared.Filter.{Filter}
use Rattle.store_text_defs.specs.declared.Filter.TheVariants.{Assemble}
use Rattle.store_text_defs.specs.Requests.{IsCommand, IsRequest, Request, asked_tokens, request_bytes, request_tokens, submit_line, tag_of, reported}
use Rattle.store_text_defs.specs.Answers.{answer_of}
use Rattle.store_text_defs.specs.Meanings.{payload_tokens}
use Rattle.store_text_defs.specs.Filters.{Filtered, Stopped, becomes}

-- ---- requests

-- a request's spelling is read as the request, and its tag as the tag
abbrev pub RequestIsRead : Type 0
RequestIsRead = (tag : ℕ) (c : Command) → tag < 2 ^ 64 → IsCommand c
    → (request_of (request_bytes tag c) ≡ Ok c) × (tag_of (request_bytes tag c) ≡ tag)

-- a request in words becomes the line that submits it
abbrev pub WordsAreRequest : Type 0
WordsAreRequest = (r : Request) → IsRequest r → becomes Assemble (reported (request_tokens r)) ≡ Some (submit_line r)

-- ---- what is put in words

-- an answer's bytes are read as the answer
abbrev pub AnswerIsRead : Type 0
AnswerIsRead = (a : Answer) → answer_of (answer_bytes a) ≡ Some a

-- a payload that is a request is written as the request in words
abbrev pub PayloadIsReported : Type 0
PayloadIsReported = (tag : ℕ) (c : Command) → tag < 2 ^ 64 → IsCommand c → payload_tokens (request_bytes tag c) ≡ asked_tokens tag c

-- ---- filters

-- an input has one output, or one first faulty line
pub record OneOutcome : Type 0 where
  pub output : (f : Filter) (input a b : List ℕ) → Filtered f input a → Filtered f input b → a ≡ b
  pub apart : (f : Filter) (input a b : List ℕ) (n : ℕ) → Filtered f input a → ¬ Stopped f input b n
