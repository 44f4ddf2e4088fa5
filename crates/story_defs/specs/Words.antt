-- Words of a plain line, read from the front. Each step answers what it read and the words after it; where it reads nothing, the line is
-- none that was expected.
use Rattle.std.specs.Prelude.{ℕ, ◌/◌, ◌^◌, ◌-◌, Bool, ◌==◌, nat_le, if◌then◌else◌, List, [], ◌∷◌, ◌++◌, length, Option, Some, None, codes, Result, Ok, Err}
use Rattle.std.specs.Option.{ok_or}
use Rattle.std.specs.List.{AllByRecursion}
use Rattle.byte_defs.specs.Choices.{and_then, first_that_holds}
use Rattle.byte_defs.specs.Equality.{same_bytes}
use Rattle.byte_defs.specs.Fields.{◌>>=◌}
use Rattle.rp_base.specs.Pids.{put_once, mask_of}
use Rattle.text_defs.specs.Words.{number_within, process_of, bytes_of}
use Rattle.replay_defs.specs.declared.Scheme.{Scheme}
use Rattle.replay_defs.specs.declared.Scheme.TheVariants as schemes
use Rattle.story_defs.specs.declared.Expected.{Expected}

-- the words of a line that are left
abbrev pub Words : Type 0
Words = List (List ℕ)

-- what a step reads, and the words after it
abbrev pub Step : Type 0 → Type 0
Step A = Result (A × Words) Expected

-- the bytes of a word in hexadecimal, any number of them; a dash where there are none
unfoldable pub hex_word : List ℕ → Option (List ℕ)
hex_word word = if same_bytes word (codes "-") then Some [] else (if length word == 0 then None else bytes_of (length word / 2) word)

-- at most `most` bytes
abbrev pub payload_of : ℕ → List ℕ → Option (List ℕ)
payload_of most word = and_then (hex_word word) (λ bytes. if nat_le (length bytes) most then Some bytes else None)

-- the word of a scheme
abbrev pub scheme_word : Scheme → List ℕ
scheme_word schemes.Plain = codes "plain"
scheme_word schemes.Lms = codes "lms"
scheme_word schemes.Hss = codes "hss"

-- the scheme of a word
abbrev pub scheme_of_word : List ℕ → Option Scheme
scheme_of_word word = first_that_holds (
    (same_bytes word (codes "plain"), schemes.Plain)
    ∷ (same_bytes word (codes "lms"), schemes.Lms)
    ∷ (same_bytes word (codes "hss"), schemes.Hss) ∷ [])

-- the byte of a role's word
abbrev pub role_of_word : List ℕ → Option ℕ
role_of_word word = first_that_holds ((same_bytes word (codes "correct"), 0) ∷ (same_bytes word (codes "corrupt"), 1) ∷ [])

-- the mask of all processes
unfoldable pub everyone : ℕ
everyone = 2 ^ 64 - 1

-- The processes that are named from the front, put into these; and the words from the first that names none.
unfoldable pub named : List ℕ → Words → List ℕ × Words
named set [] = (set, [])
named set (word ∷ words) = elim (process_of word) [ None ↦ (set, word ∷ words) | Some p ↦ named (put_once p set) words ]

-- In what follows `x` is what is expected of the line.
module _ (x : Expected) where
  -- the next word
  abbrev pub next_at : Words → Step (List ℕ)
  next_at [] = Err x
  next_at (word ∷ words) = Ok (word, words)

  -- what the next word says
  abbrev pub said_at : {A : Type 0} → (List ℕ → Option A) → Words → Step A
  said_at says words = next_at words >>= λ next. ok_or (says next.0) x >>= λ a. Ok (a, next.1)

  -- a number in these bounds
  abbrev pub number_at : ℕ → ℕ → Words → Step ℕ
  number_at least most words = said_at (number_within least most) words

  -- the number of a process
  abbrev pub process_at : Words → Step ℕ
  process_at words = said_at process_of words

  -- at most `most` bytes
  abbrev pub payload_at : ℕ → Words → Step (List ℕ)
  payload_at most words = said_at (payload_of most) words

  -- n bytes
  abbrev pub sized_at : ℕ → Words → Step (List ℕ)
  sized_at n words = said_at (bytes_of n) words

  -- this word
  abbrev pub word_at : List ℕ → Words → Step (Unit {0})
  word_at word words = said_at (λ w. if same_bytes w word then Some tt else None) words

  -- no word
  abbrev pub ended : Words → Result (Unit {0}) Expected
  ended [] = Ok tt
  ended (word ∷ words) = Err x

  -- a mask given by one process number or more
  abbrev pub named_at : Words → Step ℕ
  named_at words = process_at words >>= λ first.
      let more : List ℕ × Words = named (first.0 ∷ []) first.1 in
      Ok (mask_of more.0, more.1)

  -- a mask by its first word
  abbrev pub mask_by : Words → List ℕ → Words → Step ℕ
  mask_by all word words =
      if same_bytes word (codes "all") then Ok (everyone, words)
      else (if same_bytes word (codes "nobody") then Ok (0, words) else named_at all)

  -- `to` and a mask: all, nobody, or processes
  unfoldable pub mask_at : Words → Step ℕ
  mask_at words = do
    to ← word_at (codes "to") words
    first ← next_at to.1
    mask_by to.1 first.0 first.1
