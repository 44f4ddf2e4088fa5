-- The state of a view, and its signature.
use Rattle.std.specs.Prelude.{◌≡◌, ℕ, ◌≤◌, List, [], length, Option, Some, None}
use Rattle.message_defs.specs.Limits.{most_signature_bytes}
use Rattle.store_defs.specs.Keys.{Signs}
use Rattle.store_defs.specs.Records.{StateRecord, state_body}
use Rattle.store_giving.specs.declared.spelling.Spelling.{Spelling}
use Rattle.store_giving.specs.Spellings.{bytes_in}

-- the bytes of a state, where there is one
abbrev pub state_in : Option Spelling → List ℕ
state_in None = []
state_in (Some b) = bytes_in b

-- the record of a state, with this signature
abbrev pub record_with : ℕ → ℕ → List ℕ → List ℕ → StateRecord
record_with me number state signature = record { signer = me; view = number; state = state; signature = signature }

-- the bytes are the signature of the state with the leaf whose number is the view's
abbrev pub IsSignature : Signs → List ℕ → ℕ → ℕ → Option Spelling → List ℕ → Type 0
IsSignature key group me number state signature =
    (signature ≡ key.signature number (state_body group (record_with me number (state_in state) [])))
    × (length signature ≤ most_signature_bytes)
