-- Plain signatures, for rehearsals: key and public key are the same bytes, and whoever has them can sign.
use Rattle.std.specs.Prelude.{ℕ, List, Bool, ◌++◌}
use Rattle.byte_defs.specs.Equality.{same_bytes}
use Rattle.sha2.specs.Sha256.{sha256}

-- the signature is SHA-256 of key and body
abbrev pub plain_signature : List ℕ → List ℕ → List ℕ
plain_signature key body = sha256 (key ++ body)

abbrev pub plain_valid : List ℕ → List ℕ → List ℕ → Bool
plain_valid key body sig = same_bytes (plain_signature key body) sig
