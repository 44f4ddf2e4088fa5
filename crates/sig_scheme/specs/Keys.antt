-- Public keys, and the secrets that have one here.
use Rattle.std.specs.Prelude.{◌≡◌, ℕ, List, [], ◌∷◌, not, Option, None}
use Rattle.byte_defs.specs.Choices.{first_that_holds}
use Rattle.signature_defs.specs.Schemes as schemes
use Rattle.signature_defs.specs.Schemes.{Scheme}
use Rattle.signature_defs.specs.Secrets as secrets
use Rattle.signature_defs.specs.Secrets.{Secret, scheme_of, public_key_of, tree_is_built}
use Rattle.lms_hss.specs.Refusals.{refusal}
use Rattle.lms_hss.specs.declared.faults.KeyFault.{KeyFault}
use Rattle.lms_hss.specs.declared.faults.KeyFault.TheVariants.{TooTall}
use Rattle.sig_scheme.specs.declared.public_key.PublicKey.{PublicKey}
use Rattle.sig_scheme.specs.declared.public_key.PublicKey.TheVariants.{Plain, Lms, Hss}

abbrev pub key_bytes : PublicKey → List ℕ
key_bytes (Plain key) = key
key_bytes (Lms key) = key
key_bytes (Hss key) = key

abbrev pub key_length : PublicKey → ℕ
key_length (Plain key) = 32
key_length (Lms key) = 56
key_length (Hss key) = 60

-- the scheme by which it is spelled
abbrev pub key_scheme : PublicKey → Scheme
key_scheme (Plain key) = schemes.Plain
key_scheme (Lms key) = schemes.Lms
key_scheme (Hss key) = schemes.Hss

-- the public key of a secret, in its scheme
pub record IsKeyOf (secret : Secret) (key : PublicKey) : Type 0 where
  pub has_bytes : key_bytes key ≡ public_key_of secret
  pub has_scheme : key_scheme key ≡ scheme_of secret

-- the reason not to build a tree of this typecode
abbrev pub tree_refusal : ℕ → Option KeyFault
tree_refusal code = first_that_holds ((not (tree_is_built code), TooTall) ∷ [])

-- the first reason to make no signer of a secret
abbrev pub refusal_of : Secret → Option KeyFault
refusal_of (secrets.Plain key total) = None
refusal_of (secrets.Lms code kind id seed) = tree_refusal code
refusal_of (secrets.Hss levels code kind id seed) = refusal levels code kind
