-- Processes with the signers of their keys.
use Rattle.std.specs.Prelude.{◌≡◌, ℕ, List, [], ◌∷◌}
use Rattle.signature_defs.specs.Secrets as secrets
use Rattle.replay_defs.specs.Keys.{Key, Plain, Lms, Hss}
use Rattle.replay_defs.specs.Signers.{key_total, key_public, key_signature}
use Rattle.replay_defs.specs.Schedules.{Listed}
use Rattle.sig_scheme.specs.declared.any_signer.AnySigner.{AnySigner}
use Rattle.sig_scheme.specs.Signers.{used, total, public, signature}
use Rattle.replay_cast.specs.declared.keyed.Keyed.{Keyed}
use Rattle.replay_cast.specs.declared.roster.Entry.{Entry}

-- the secret that a key is
abbrev pub secret_in : Key → secrets.Secret
secret_in (Plain key total) = secrets.Plain key total
secret_in (Lms code kind id seed) = secrets.Lms code kind id seed
secret_in (Hss levels code kind id seed) = secrets.Hss levels code kind id seed

-- s is the signer of key k, before it signs
pub record IsSignerOfKey (k : Key) (s : AnySigner) : Type 0 where
  pub unused : used s ≡ 0
  pub total : total s ≡ key_total k
  pub public : public s ≡ key_public k
  pub signs : signature s ≡ key_signature k

-- k is the process that is listed as l, with the signer of its key
pub record IsKeyed (l : Listed) (k : Keyed) : Type 0 where
  pub process : k.process ≡ l.process
  pub corrupt : k.corrupt ≡ l.corrupt
  pub signer : IsSignerOfKey l.key k.signer

-- each process with its signer is the one that is listed at its place
abbrev pub AreKeyed : List Listed → List Keyed → Type 0
AreKeyed [] [] = Unit {0}
AreKeyed (l ∷ ls) (k ∷ ks) = IsKeyed l k × AreKeyed ls ks
AreKeyed _ _ = ⊥

-- a process and its public key
abbrev pub key_of : Keyed → ℕ × List ℕ
key_of k = (k.process, public k.signer)

abbrev pub entry : Entry → ℕ × List ℕ
entry e = (e.process, e.key.items)
