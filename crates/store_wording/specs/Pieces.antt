-- Parts of a request, as the code has them.
use Rattle.std.specs.Prelude.{ℕ, ◌≤◌, List, [], ◌∷◌, codes, length, Option, Some, None}
use Rattle.std.specs.Fmt.{decimal}
use Rattle.hex.specs.Hex.{encode_lower}
use Rattle.text_defs.specs.Words.{line_text}
use Rattle.store_defs.specs.Stores.{Command, Set, Get, Remove, Exchange}
use Rattle.store_text_defs.specs.Requests.{Request, request_bytes}

-- the bytes of a command with its tag
abbrev pub payload : ℕ × Command → List ℕ
payload a = request_bytes a.0 a.1

-- keys and values have no more bytes than they may
abbrev pub IsShort : Command → Type 0
IsShort (Set key value) = (length key ≤ 64) × (length value ≤ 512)
IsShort (Get key) = length key ≤ 64
IsShort (Remove key) = length key ≤ 64
IsShort (Exchange key expected value) = (length key ≤ 64) × (length expected ≤ 512) × (length value ≤ 512)

-- the first four words of a request
pub record Head : Type 0 where
  pub process : List ℕ
  pub verb : List ℕ
  pub tag : List ℕ
  pub key : List ℕ

-- and the words after them, where there are four at least
abbrev pub head_of : List (List ℕ) → Option (Head × List (List ℕ))
head_of (process ∷ verb ∷ tag ∷ key ∷ words) = Some (record { process = process; verb = verb; tag = tag; key = key }, words)
head_of _ = None

-- who submits a request, and which bytes
abbrev pub submitted : Request → ℕ × List ℕ
submitted r = (r.process, request_bytes r.tag r.command)

-- the line that submits them
abbrev pub line_of : ℕ × List ℕ → List ℕ
line_of s = line_text (decimal s.0 ∷ codes "submit" ∷ encode_lower s.1 ∷ [])
