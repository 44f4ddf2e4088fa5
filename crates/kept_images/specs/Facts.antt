-- What makes an image kept, of each part of it that its heard lists have no say in.
use Rattle.std.specs.Prelude.{◌≡◌, ◌≢◌, ◌↔◌, ℕ, ◌-◌, ◌<◌, ◌≤◌, Bool, true, List, length, All, AllPairs, Option, Some, IsTrue}
use Rattle.std.specs.List.{sum_by}
use Rattle.message_defs.specs.Limits.{most_places, most_payload_bytes}
use Rattle.message_defs.specs.Updates.{Update, Value}
use Rattle.message_defs.specs.Statements.{Claim, Conflicts, view_of}
use Rattle.group_defs.specs.Views.{View, is_member, is_possible}
use Rattle.group_defs.specs.Process.{Setting, Delivered, delivered_from, places_in}
use Rattle.group_defs.specs.Hearing.{is_valid}
use Rattle.group_defs.specs.Accounts.{IsByPlace}

-- of each pair of claims both are one signer's, conflict, and are valid; and each signer has one pair
pub record AreConflicts (s : Setting) (pairs : List (Claim × Claim)) : Type 0 where
  pub each : All (λ e. (e.0.signer ≡ e.1.signer) × Conflicts e.0 e.1 × IsTrue (is_valid s e.0) × IsTrue (is_valid s e.1)) pairs
  pub one_each : AllPairs (λ e d. e.0.signer ≢ d.0.signer) pairs

-- each claim is of this process, of no view above this one, and valid
abbrev pub AreOwn : Setting → ℕ → View → List Claim → Type 0
AreOwn s me v cs = All (λ c. (c.signer ≡ me) × (view_of c.statement ≤ v.number) × IsTrue (is_valid s c)) cs

-- what was delivered in each view is in the order of places, and has no more places than a view
pub record AreByPlace (lists : List (List Delivered)) : Type 0 where
  pub by_place : All IsByPlace lists
  pub few : All (λ ds. places_in ds ≤ most_places) lists

-- the update of what is decided is possible in the view, the process is a member of it, and `places` is not the cut
abbrev pub Decides : List ℕ → View → ℕ → ℕ → Option (ℕ × Value) → Type 0
Decides keyed v me places decision = (d : ℕ × Value) → decision ≡ Some d
    → IsTrue (is_possible keyed v d.1.update) × IsTrue (is_member v me) × (places ≢ d.1.cut)

-- the process has halted exactly where there is a decision, and `places` is beyond its cut
abbrev pub IsHaltedSo : Bool → ℕ → Option (ℕ × Value) → Type 0
IsHaltedSo halted places decision = (halted ≡ true) ↔ ((d : ℕ × Value) × (decision ≡ Some d) × (d.1.cut < places))

-- how many messages of this process were delivered in all views
abbrev pub own_delivered : ℕ → List (List Delivered) → ℕ
own_delivered me lists = sum_by (λ ds. delivered_from me ds) lists

-- no accepted payload is too long, and where `delivered` are delivered, at most 256 of them are not
pub record AreAccepted (accepted : List (List ℕ)) (delivered : ℕ) : Type 0 where
  pub short : All (λ payload. length payload ≤ most_payload_bytes) accepted
  pub backlog : length accepted - delivered ≤ 256

-- what is perceived is of no view above this one, and an update of this one is possible in it
abbrev pub ArePerceived : List ℕ → View → List (ℕ × Update) → Type 0
ArePerceived keyed v es = All (λ e. (e.0 ≤ v.number) × (e.0 ≡ v.number → IsTrue (is_possible keyed v e.1))) es
