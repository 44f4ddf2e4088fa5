-- Which images have a spelling.
-- Names here (* for this crate alone):
--   EachFrom, IsListOf, AreClaims, IsRanked, IsLeftView, IsPerceived, IsPayload, IsConflict, IsPlaceAt, IsDeliveredAt, IsDecision,
--     IsImage
use Rattle.std.specs.Prelude.{◌≡◌, ℕ, ◌+◌, ◌^◌, ◌<◌, ◌≤◌, List, [], ◌∷◌, length, Option, Some, None, IsTrue}
use Rattle.message_defs.specs.Limits.{last_process, last_number, last_rank, most_payload_bytes}
use Rattle.message_defs.specs.Updates.{Update, Value}
use Rattle.message_defs.specs.Statements.{Claim}
use Rattle.message_defs.specs.Spelling.{IsUpdate, IsValue, IsClaim}
use Rattle.group_defs.specs.Process.{Delivered}
use Rattle.image_defs.specs.Images.{LeftView, Image}
use Rattle.snapshot_defs.specs.declared.Version.{Version}
use Rattle.snapshot_defs.specs.declared.Version.TheVariants.{One, Two}
use Rattle.snapshot_defs.specs.Reading.{rises, perceived_key, conflict_key}

-- each of them, by its position; that of the first is given
abbrev pub EachFrom : {A : Type 0} → (ℕ → A → Type 0) → ℕ → List A → Type 0
EachFrom Is k [] = Unit {0}
EachFrom Is k (x ∷ xs) = Is k x × EachFrom Is (k + 1) xs

-- a list whose length has four bytes
abbrev pub IsListOf : {A : Type 0} → (ℕ → A → Type 0) → List A → Type 0
IsListOf Is xs = (length xs < 2 ^ 32) × EachFrom Is 0 xs

abbrev pub AreClaims : List Claim → Type 0
AreClaims cs = IsListOf (λ k c. IsClaim c) cs

abbrev pub IsRanked : ℕ × Value → Type 0
IsRanked r = (r.0 ≤ last_rank) × IsValue r.1

abbrev pub IsLeftView : LeftView → Type 0
IsLeftView l = (l.rank ≤ last_rank) × IsValue l.value × AreClaims l.commit

abbrev pub IsPerceived : ℕ × Update → Type 0
IsPerceived e = (e.0 ≤ last_number) × IsUpdate e.1

abbrev pub IsPayload : List ℕ → Type 0
IsPayload payload = length payload ≤ most_payload_bytes

abbrev pub IsConflict : Claim × Claim → Type 0
IsConflict e = IsClaim e.0 × IsClaim e.1

-- a place of a view; in version 1 it is the position in the list
abbrev pub IsPlaceAt : Version → ℕ → ℕ → Type 0
IsPlaceAt One k place = (place ≤ last_number) × (place ≡ k)
IsPlaceAt Two k place = place ≤ last_number

abbrev pub IsDeliveredAt : Version → ℕ → Delivered → Type 0
IsDeliveredAt v k d = IsPlaceAt v k d.place × (d.message.sender ≤ last_process) × (d.message.number ≤ last_number) × IsPayload d.payload

abbrev pub IsDecision : Option (ℕ × Value) → Type 0
IsDecision None = Unit {0}
IsDecision (Some r) = IsRanked r

-- the image has a spelling in this version
pub record IsImage (v : Version) (i : Image) : Type 0 where
  pub me : i.me ≤ last_process
  pub views : length i.left ≤ last_number
  pub left : EachFrom (λ k l. IsLeftView l) 0 i.left
  pub perceived : IsListOf (λ k e. IsPerceived e) i.perceived
  pub perceived_rise : IsTrue (rises perceived_key i.perceived)
  pub accepted : IsListOf (λ k payload. IsPayload payload) i.accepted
  pub signed : AreClaims i.signed
  pub previous : AreClaims i.previous
  pub heard : AreClaims i.heard
  pub few : length i.conflicts ≤ last_process + 1
  pub conflicts : EachFrom (λ k e. IsConflict e) 0 i.conflicts
  pub conflicts_rise : IsTrue (rises conflict_key i.conflicts)
  pub lists : length i.delivered ≡ length i.left + 1
  pub delivered : EachFrom (λ k ds. IsListOf (IsDeliveredAt v) ds) 0 i.delivered
  pub decision : IsDecision i.decision
