-- What the words of a line with a reply say.
-- Names here (* for this crate alone):
--   only_word*, is_asked*, is_record*, record_behind*, replies_by*
use Rattle.std.specs.Prelude.{ℕ, ◌==◌, ◌&&◌, if◌then◌else◌, Bool, false, List, [], ◌∷◌, codes, Option, Some, None}
use Rattle.std.specs.Result.{result_ok}
use Rattle.byte_defs.specs.Choices.{is_some_and}
use Rattle.byte_defs.specs.Equality.{same_bytes}
use Rattle.text_defs.specs.Words.{process_of}
use Rattle.store_defs.specs.Records.{Reply, reply_of}
use Rattle.store_defs.specs.Words.{some_bytes_of}

-- the only word, where there is just one
abbrev pub only_word : List (List ℕ) → Option (List ℕ)
only_word (word ∷ []) = Some word
only_word _ = None

-- it is of this process, and to this payload
abbrev pub is_asked : List ℕ → ℕ → Reply → Bool
is_asked payload p r = (r.signer == p) && same_bytes r.payload payload

-- the bytes are such a reply
abbrev pub is_record : List ℕ → ℕ → List ℕ → Bool
is_record payload p bytes = is_some_and (result_ok (reply_of bytes)) (is_asked payload p)

-- the words after `reply`
abbrev pub record_behind : List ℕ → List (List ℕ) → Bool
record_behind payload (process ∷ word ∷ []) = is_some_and (process_of process) (λ p. is_some_and (some_bytes_of word) (is_record payload p))
record_behind payload _ = false

-- the words of a line
abbrev pub replies_by : List ℕ → List (List ℕ) → Bool
replies_by payload [] = false
replies_by payload (word ∷ words) = if same_bytes word (codes "reply") then record_behind payload words else false
