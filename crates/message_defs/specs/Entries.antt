-- The signatures that a journal's entry keeps beside its event: each a length of two bytes, at most 16,384, and
-- that many bytes.
use Rattle.std.specs.Prelude.{ℕ, zero, suc, List, [], ◌∷◌, Result, Ok, nat_lt}
use Rattle.std.specs.Int.{w16}
use Rattle.byte_defs.specs.Fields.{◌>>=◌, refuse_if, number_at, bytes_at}
use Rattle.message_defs.specs.Limits.{most_signature_bytes}

-- one signature, and the bytes after it
unfoldable pub kept_at : List ℕ → Result (List ℕ × List ℕ) (Unit {0})
kept_at bytes = do
  len ← number_at tt w16 bytes
  _ ← refuse_if (nat_lt most_signature_bytes len.0) tt
  bytes_at tt len.0 len.1

-- n signatures, and the bytes after them
unfoldable pub all_kept_at : ℕ → List ℕ → Result (List (List ℕ) × List ℕ) (Unit {0})
all_kept_at zero bytes = Ok ([], bytes)
all_kept_at (suc n) bytes = do
  first ← kept_at bytes
  others ← all_kept_at n first.1
  Ok (first.0 ∷ others.0, others.1)
