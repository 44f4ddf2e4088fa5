-- An answer of the store, read from its bytes and put in words.
use Rattle.std.specs.Prelude.{ℕ, ◌==◌, List, [], ◌∷◌, codes, Option, Some, None}
use Rattle.std.specs.Option.{option_flatten}
use Rattle.byte_defs.specs.Choices.{first_that_holds}
use Rattle.story_defs.specs.Texts.{Token, Word, Bytes}
use Rattle.store_defs.specs.Stores.{Answer, Done, Value, Absent, NoCommand, Full, Differs}

-- an answer of one byte
abbrev pub alone : Answer → List ℕ → Option Answer
alone a [] = Some a
alone a _ = None

-- the answer that the bytes are, if they are one: by the first of them, and the value after it
abbrev pub answer_of : List ℕ → Option Answer
answer_of [] = None
answer_of (what ∷ value) = option_flatten (first_that_holds (
    (what == 0, alone Done value)
    ∷ (what == 1, Some (Value value))
    ∷ (what == 2, alone Absent value)
    ∷ (what == 3, alone NoCommand value)
    ∷ (what == 4, alone Full value)
    ∷ (what == 5, Some (Differs value)) ∷ []))

-- an answer in words
abbrev pub answer_tokens : Answer → List Token
answer_tokens Done = Word (codes "done") ∷ []
answer_tokens (Value value) = Word (codes "value") ∷ Bytes value ∷ []
answer_tokens Absent = Word (codes "absent") ∷ []
answer_tokens NoCommand = Word (codes "no") ∷ Word (codes "request") ∷ []
answer_tokens Full = Word (codes "full") ∷ []
answer_tokens (Differs value) = Word (codes "differs") ∷ Bytes value ∷ []

-- of bytes that were read so
abbrev pub said_or : List ℕ → Option Answer → List Token
said_or bytes (Some a) = answer_tokens a
said_or bytes None = Word (codes "unknown") ∷ Bytes bytes ∷ []

-- of bytes, which may be no answer
abbrev pub said_tokens : List ℕ → List Token
said_tokens bytes = said_or bytes (answer_of bytes)
