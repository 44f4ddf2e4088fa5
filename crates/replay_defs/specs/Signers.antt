-- What a key of a schedule determines: how much it signs, its public key and its signatures.
use Rattle.std.specs.Prelude.{ℕ, Bool, List}
use Rattle.signature_defs.specs.Schemes as built
use Rattle.signature_defs.specs.Schemes.{is_valid}
use Rattle.signature_defs.specs.Secrets as secrets
use Rattle.signature_defs.specs.Secrets.{total_of, public_key_of, signature_of}
use Rattle.replay_defs.specs.declared.Scheme.{Scheme}
use Rattle.replay_defs.specs.declared.Scheme.TheVariants as schemes
use Rattle.replay_defs.specs.Keys.{Key, Plain, Lms, Hss}

-- how many bodies it signs
abbrev pub key_total : Key → ℕ
key_total (Plain key total) = total_of (secrets.Plain key total)
key_total (Lms code kind id seed) = total_of (secrets.Lms code kind id seed)
key_total (Hss levels code kind id seed) = total_of (secrets.Hss levels code kind id seed)

-- its public key
abbrev pub key_public : Key → List ℕ
key_public (Plain key total) = public_key_of (secrets.Plain key total)
key_public (Lms code kind id seed) = public_key_of (secrets.Lms code kind id seed)
key_public (Hss levels code kind id seed) = public_key_of (secrets.Hss levels code kind id seed)

-- its one signature on a body after q others
abbrev pub key_signature : Key → ℕ → List ℕ → List ℕ
key_signature (Plain key total) q body = signature_of (secrets.Plain key total) q body
key_signature (Lms code kind id seed) q body = signature_of (secrets.Lms code kind id seed) q body
key_signature (Hss levels code kind id seed) q body = signature_of (secrets.Hss levels code kind id seed) q body

-- the signature is valid by the scheme: public key, body, signature
abbrev pub scheme_valid : Scheme → List ℕ → List ℕ → List ℕ → Bool
scheme_valid schemes.Plain = is_valid built.Plain
scheme_valid schemes.Lms = is_valid built.Lms
scheme_valid schemes.Hss = is_valid built.Hss
