-- A secret in a kit's ranges has a signer, and so have those that are made of it.
use Rattle.std.proofs.Common.{◌≡◌, ℕ, List, None, codes, refl}
use Rattle.signature_defs.specs.Secrets.{Secret, Plain, Lms, Hss}
use Rattle.kit_defs.specs.Kits.{IsSecret}
use Rattle.sig_scheme.specs.Keys.{refusal_of}
use Rattle.sig_scheme.proofs.Refusals.{levels_not_refused, tree_not_refused}
use Rattle.store_defs.specs.Keys.{derived_secret, reply_secret, state_secret}

derived_not_refused : (letters : List ℕ) (s : Secret) → IsSecret s → refusal_of (derived_secret letters s) ≡ None
derived_not_refused letters (Plain key total) is = refl
derived_not_refused letters (Lms code kind id seed) is = tree_not_refused code is.0 is.1
derived_not_refused letters (Hss levels code kind id seed) is = levels_not_refused levels code kind is.0

pub reply_not_refused : (s : Secret) → IsSecret s → refusal_of (reply_secret s) ≡ None
reply_not_refused s is = derived_not_refused (codes "RPR1") s is

pub state_not_refused : (s : Secret) → IsSecret s → refusal_of (state_secret s) ≡ None
state_not_refused s is = derived_not_refused (codes "RPT1") s is
