-- What the signatures of an entry are as a signer's.
use Rattle.std.specs.Prelude.{◌≡◌, ℕ, ◌+◌, ◌-◌, true, List, [], length, slice_index_or, refl}
use Rattle.rp_base.specs.Signer.{KeyKeeps}
use Rattle.member_events.specs.Kept.{signatures_left}
use Rattle.member_core.specs.declared.journalled.Journalled.{Journalled}

-- how many signatures were made
abbrev pub used_of : Journalled → ℕ
used_of j = j.used

-- how many signatures will have been made with the last of the entry's
abbrev pub total_of : Journalled → ℕ
total_of j = j.total

-- the signature that is handed out where `used` were made
abbrev pub handed_out : Journalled → ℕ → List ℕ → List ℕ
handed_out j used body = slice_index_or (signatures_left j.all) (used - j.before) []

-- the signer j has handed out none of the entry's signatures yet, and these are the entry's
pub record HandsOut (j : Journalled) (signatures : List (List ℕ)) : Type 0 where
  pub before : j.before ≡ j.used
  pub all : signatures_left j.all ≡ signatures
  pub many : j.total ≡ j.used + length signatures

-- where j and k hand out the same signatures, they are one signer without a key
pub keeps_all : (j k : Journalled) → handed_out k ≡ handed_out j
    → KeyKeeps [] [] 16384 16384 (handed_out j) (handed_out k) (λ key body sig. true) (λ key body sig. true)
keeps_all j k same = record { public_key = refl; length = refl; signatures = same; rule = refl }
