-- The keys of replies and of states: secrets of the kit's kind, made from a process's own.
use Rattle.std.specs.Prelude.{ℕ, List, [], ◌∷◌, ◌++◌, take, codes}
use Rattle.sha2.specs.Sha256.{sha256}
use Rattle.signature_defs.specs.Secrets.{Secret, Plain, Lms, Hss, total_of, public_key_of, signature_of}

-- what is made of a seed or plain key, under four letters: number 0 gives I, number 1 the seed or key
abbrev pub derived : List ℕ → ℕ → List ℕ → List ℕ
derived letters number seed = sha256 (letters ++ (number ∷ seed))

-- a secret with the same parameters
abbrev pub derived_secret : List ℕ → Secret → Secret
derived_secret letters (Plain key total) = Plain (derived letters 1 key) total
derived_secret letters (Lms code kind id seed) = Lms code kind (take 16 (derived letters 0 seed)) (derived letters 1 seed)
derived_secret letters (Hss levels code kind id seed) = Hss levels code kind (take 16 (derived letters 0 seed)) (derived letters 1 seed)

abbrev pub reply_secret : Secret → Secret
reply_secret secret = derived_secret (codes "RPR1") secret

abbrev pub state_secret : Secret → Secret
state_secret secret = derived_secret (codes "RPT1") secret

-- what signs: how many leaves it has, its public key, and its signature with a leaf on a body
pub record Signs : Type 0 where
  pub total : ℕ
  pub public : List ℕ
  pub signature : ℕ → List ℕ → List ℕ

-- of a secret
abbrev pub signs_of : Secret → Signs
signs_of secret = record { total = total_of secret; public = public_key_of secret; signature = signature_of secret }
