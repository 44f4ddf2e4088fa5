-- Questions on a replicated store: how they are spelled, and what is answered.
use Rattle.std.specs.Prelude.{◌≡◌, ℕ, ◌≤◌, List, [], ◌∷◌, length, map, codes}
use Rattle.std.specs.List.{AllByRecursion}
use Rattle.hex.specs.Hex.{IsBytes}
use Rattle.text_defs.specs.Words.{bytes_word}
use Rattle.interop_store.specs.Telling.{apply_words, reply_answer, state_answer}

-- each word is the spelling of one of these, in order
abbrev pub SpellEach : List (List ℕ) → List (List ℕ) → Type 0
SpellEach words payloads = AllByRecursion IsBytes payloads × (words ≡ map bytes_word payloads)

pub data Question : Type 0 where
  -- what a store answers to these payloads, one after the other, and its state after them
  OfApply : (payloads : List (List ℕ)) → Question
  -- what the bytes say as a reply
  OfReply : (bytes : List ℕ) → Question
  -- what the bytes say as a state record
  OfState : (bytes : List ℕ) → Question

-- there is a payload at least
abbrev pub IsQuestion : Question → Type 0
IsQuestion (OfApply payloads) = (1 ≤ length payloads) × AllByRecursion IsBytes payloads
IsQuestion (OfReply bytes) = IsBytes bytes
IsQuestion (OfState bytes) = IsBytes bytes

-- `apply HEX HEX ..`, `reply HEX` and `state HEX`
abbrev pub spelled : Question → List (List ℕ)
spelled (OfApply payloads) = codes "apply" ∷ map bytes_word payloads
spelled (OfReply bytes) = codes "reply" ∷ bytes_word bytes ∷ []
spelled (OfState bytes) = codes "state" ∷ bytes_word bytes ∷ []

abbrev pub answer_to : Question → List ℕ
answer_to (OfApply payloads) = apply_words payloads
answer_to (OfReply bytes) = reply_answer bytes
answer_to (OfState bytes) = state_answer bytes

-- the words are those of a question on a store, and this is what is answered
pub record Answers (words : List (List ℕ)) (reported : List ℕ) : Type 0 where
  pub question : Question
  pub fits : IsQuestion question
  pub asked : words ≡ spelled question
  pub reported_is : reported ≡ answer_to question
