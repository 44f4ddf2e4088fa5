-- What a signer means is what its variant means.
use Rattle.std.specs.Prelude.{◌≡◌, ℕ, ◌^◌, List, Bool}
use Rattle.signature_defs.specs.Plain.{plain_signature, plain_valid}
use Rattle.signature_defs.specs.Lms.{lms_valid}
use Rattle.signature_defs.specs.Hss.{hss_valid}
use Rattle.signature_defs.specs.Schemes.{is_valid}
use Rattle.signature_defs.specs.Secrets as secrets
use Rattle.signature_defs.specs.Secrets.{Secret, scheme_of, total_of, public_key_of, signature_length_of}
use Rattle.rp_base.specs.Signer as plain
use Rattle.rp_base.specs.Signer.{KeyKeeps, key_of, plain_keeps}
use Rattle.lms_tree.specs.Key as trees
use Rattle.lms_hss.specs.Key as levels
use Rattle.sig_scheme.specs.declared.any_signer.AnySigner.{AnySigner}
use Rattle.sig_scheme.specs.declared.any_signer.AnySigner.TheVariants.{Plain, Lms, Hss}

-- how many signatures it made
abbrev pub used : AnySigner → ℕ
used (Plain s) = plain.used_of s
used (Lms k) = k.used
used (Hss k) = k.used

-- how many it can make in all: a tree one with each leaf
abbrev pub total : AnySigner → ℕ
total (Plain s) = plain.total_of s
total (Lms k) = 2 ^ k.tree.height
total (Hss k) = levels.total_of k

abbrev pub public : AnySigner → List ℕ
public (Plain s) = key_of s
public (Lms k) = trees.public_of k
public (Hss k) = levels.public_of k

-- how many bytes its signatures have
abbrev pub sig_len : AnySigner → ℕ
sig_len (Plain s) = 32
sig_len (Lms k) = trees.length_of k
sig_len (Hss k) = levels.length_of k

-- its one signature on a body after q others
abbrev pub signature : AnySigner → ℕ → List ℕ → List ℕ
signature (Plain s) q body = plain_signature (key_of s) body
signature (Lms k) q body = trees.signature_of k q body
signature (Hss k) q body = levels.signature_of k q body

-- its rule is the validity of its scheme
abbrev pub admits : AnySigner → List ℕ → List ℕ → List ℕ → Bool
admits (Plain s) = plain_valid
admits (Lms k) = lms_valid
admits (Hss k) = hss_valid

-- both are one key, so both are of one scheme
abbrev pub SameKey : AnySigner → AnySigner → Type 0
SameKey (Plain s) (Plain t) = key_of t ≡ key_of s
SameKey (Lms k) (Lms l) = KeyKeeps (trees.public_of k) (trees.public_of l) (trees.length_of k) (trees.length_of l) (trees.signature_of k)
    (trees.signature_of l) lms_valid lms_valid
SameKey (Hss k) (Hss l) = KeyKeeps (levels.public_of k) (levels.public_of l) (levels.length_of k) (levels.length_of l)
    (levels.signature_of k) (levels.signature_of l) hss_valid hss_valid
SameKey _ _ = ⊥

pub any_keeps : (s t : AnySigner) → SameKey s t
    → KeyKeeps (public s) (public t) (sig_len s) (sig_len t) (signature s) (signature t) (admits s) (admits t)
any_keeps (Plain s) (Plain t) same = plain_keeps s t same
any_keeps (Lms k) (Lms l) same = same
any_keeps (Hss k) (Hss l) same = same
any_keeps _ _ same = absurd same

-- the signer that a secret determines, before it signs
pub record IsSignerOf (secret : Secret) (s : AnySigner) : Type 0 where
  pub unused : used s ≡ 0
  pub has_total : total s ≡ total_of secret
  pub has_key : public s ≡ public_key_of secret
  pub has_length : sig_len s ≡ signature_length_of secret
  pub signs : signature s ≡ secrets.signature_of secret
  pub rule : admits s ≡ is_valid (scheme_of secret)
