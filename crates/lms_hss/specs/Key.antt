-- What the clauses on a key cite.
use Rattle.std.specs.Prelude.{◌≡◌, ℕ, List}
use Rattle.signature_defs.specs.declared.OtsType.{OtsType}
use Rattle.signature_defs.specs.Hss as hss
use Rattle.signature_defs.specs.Hss.{hss_public_key, hss_signature, hss_signature_length}
use Rattle.lms_hss.specs.Plans.{IsPlanOf, secret}
use Rattle.lms_hss.specs.declared.key.HssKey.{HssKey}

-- the key made from these, which has signed nothing
pub record IsMadeFrom (levels typecode : ℕ) (ots : OtsType) (id seed : List ℕ) (key : HssKey) : Type 0 where
  pub plan : IsPlanOf levels typecode ots id seed key.plan
  pub unused : key.used ≡ 0

-- how many bodies it signs
abbrev pub total_of : HssKey → ℕ
total_of key = hss.hss_total (secret key.plan)

-- its public key, by the RFC
abbrev pub public_of : HssKey → List ℕ
public_of key = hss_public_key (secret key.plan)

-- its one signature with number c
abbrev pub signature_of : HssKey → ℕ → List ℕ → List ℕ
signature_of key c body = hss_signature (secret key.plan) c body

abbrev pub length_of : HssKey → ℕ
length_of key = hss_signature_length key.plan.levels key.plan.ots key.plan.height

-- the key stays, and so does all that it determines
pub record KeepsKey (old new : HssKey) : Type 0 where
  pub plan : new.plan ≡ old.plan
  pub public_key : new.public ≡ old.public
