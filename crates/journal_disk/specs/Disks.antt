-- A journal on a disk that says what it holds.
-- Names here (* for this crate alone):
--   HasRest, HasStaged*, EndsAt, EndsClosed*, HasLength, StaysUntold, BeginsAt, LeavesStaged, LeavesOnly, OnlyReads, StagesThenOpens*
use Rattle.std.specs.Prelude.{◌≡◌, ◌⊎◌, ℕ, ◌≤◌, List, [], ◌∷◌, ◌++◌, length, drop, Option, Some, None, IfSome}
use Rattle.std.specs.List.{AllByRecursion}
use Rattle.rp_base.specs.Disks.{Only, SameImages}
use Rattle.journal_defs.specs.Entries.{Entry, IsEntry}
use Rattle.journal_defs.specs.Journals.{up_to_gate, closed_gate, ReadsAs}
use Rattle.journal_defs.specs.Crashes.{IsAtRest, IsOpening, IsImageOf, IsWithOrWithout, AllOpening}

-- the journal is at rest with these entries, its closed gate is at this place, and every crash leaves it so
pub record HasRest (seen : Option (List ℕ)) (may_leave : List ℕ → Type 0) (head : List ℕ) (es : List Entry) (gate : ℕ) : Type 0 where
  pub file : List ℕ
  pub reported : seen ≡ Some file
  pub rest : IsAtRest head es file
  pub place : gate ≡ length (up_to_gate head es)
  pub only : Only file may_leave
  pub each : AllByRecursion IsEntry es

-- an entry is staged after the closed gate at this place, and every crash leaves it so
pub record HasStaged (seen : Option (List ℕ)) (may_leave : List ℕ → Type 0) (head : List ℕ) (es : List Entry) (e : Entry)
    (gate : ℕ) : Type 0 where
  pub file : List ℕ
  pub reported : seen ≡ Some file
  pub more : List ℕ
  pub opening : IsOpening head es e more file
  pub place : gate ≡ length (up_to_gate head es)
  pub only : Only file may_leave
  pub each : AllByRecursion IsEntry es
  pub entry : IsEntry e

-- entries lie on the disk, and after them a closed gate, at this place
pub record EndsAt (seen : Option (List ℕ)) (head : List ℕ) (fs : List Entry) (gate : ℕ) : Type 0 where
  pub file : List ℕ
  pub reported : seen ≡ Some file
  pub reads : ReadsAs head file fs
  pub place : gate ≡ length (up_to_gate head fs)

-- and it is closed as it is written
pub record EndsClosed (seen : Option (List ℕ)) (head : List ℕ) (fs : List Entry) (gate : ℕ) : Type 0 where
  pub ends : EndsAt seen head fs gate
  pub written : ends.reads.gate ≡ closed_gate

-- where the disk says what it holds, it has `len` bytes
abbrev pub HasLength : Option (List ℕ) → ℕ → Type 0
HasLength seen len = IfSome seen (λ file. len ≡ length file)

-- a disk that said nothing of its bytes says nothing of them still
abbrev pub StaysUntold : Option (List ℕ) → Option (List ℕ) → Type 0
StaysUntold None new = new ≡ None
StaysUntold (Some old) new = Unit {0}

-- these bytes lie from this place on
abbrev pub BeginsAt : List ℕ → ℕ → List ℕ → Type 0
BeginsAt file at piece = (rest : List ℕ) × (drop at file ≡ piece ++ rest)

-- well formed, with these entries, or with one more that every image had staged
abbrev pub LeavesStaged : List ℕ → List Entry → (List ℕ → Type 0) → List ℕ → Type 0
LeavesStaged head es images c = IsImageOf head c es ⊎ ((e : Entry) × AllOpening head es e images × IsImageOf head c (es ++ e ∷ []))

-- a crash at any moment since old leaves an image that has P
pub record LeavesOnly {D : Type 0} (moment : D → ℕ) (left_since : D → ℕ → List ℕ → Type 0) (old new : D)
    (P : List ℕ → Type 0) : Type 0 where
  pub later : moment old ≤ moment new
  pub each : (c : List ℕ) → left_since new (moment old) c → P c
  -- for a run that began earlier
  pub before : (t : ℕ) (c : List ℕ) → t ≤ moment old → left_since new t c → left_since old t c ⊎ P c

-- The disk was only read: it reads as it did, its images are those that there were, and so they were at each moment since.
pub record OnlyReads {D : Type 0} (seen : D → Option (List ℕ)) (may_leave : D → List ℕ → Type 0) (moment : D → ℕ)
    (left_since : D → ℕ → List ℕ → Type 0) (old new : D) : Type 0 where
  pub reads : seen new ≡ seen old
  pub images : SameImages (may_leave old) (may_leave new)
  pub moments : LeavesOnly moment left_since old new (may_leave old)

-- An entry is appended in this order. Until it is staged whole, a crash leaves the entries that there were; from then on these or one
-- more.
abbrev pub StagesThenOpens : {D : Type 0} → (D → Option (List ℕ)) → (D → List ℕ → Type 0) → (D → ℕ) → (D → ℕ → List ℕ → Type 0) → D → D
    → List ℕ → List Entry → Entry → ℕ → Type 0
StagesThenOpens {D} seen may_leave moment left_since old new head es e gate = LeavesOnly moment left_since old new
    (λ image. IsImageOf head image es)
    ⊎ ((mid : D) × HasStaged (seen mid) (may_leave mid) head es e gate
    × LeavesOnly moment left_since old mid (λ image. IsImageOf head image es)
    × LeavesOnly moment left_since mid new (IsWithOrWithout head es e))
