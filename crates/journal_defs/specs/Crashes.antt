-- What a crash leaves of a journal.
-- Names here (* for this crate alone):
--   IsStaged*, IsImageOf, IsWithOrWithout
--   the moments of an append: IsAtRest, IsOpening
--   as a run begins: AllAtRest*, AllOpening, Survives, staged
--   the laws: TornBehindTheGate*, WrittenBehindTheGate*, TornGate*, AtRestIsImage*, OpeningIsImage*, OpenedIsAtRest*, OneImageSurvives*,
--     ImageReads*
use Rattle.std.specs.Prelude.{◌≡◌, ◌≢◌, ◌⊎◌, ℕ, ◌+◌, List, [], ◌∷◌, ◌++◌, length, take, drop}
use Rattle.std.specs.List.{AllByRecursion}
use Rattle.rp_base.specs.Disks.{Torn}
use Rattle.journal_defs.specs.Entries.{Entry, IsEntry}
use Rattle.journal_defs.specs.Journals.{ReadsAs, open_gate, closed_gate, behind_gate, up_to_gate}

-- a whole entry and the next gate, closed, follow the closed gate: it may be opened
pub record IsStaged (e : Entry) (behind : List ℕ) : Type 0 where
  pub more : List ℕ
  pub parts : behind ≡ behind_gate e ++ closed_gate ∷ more
  pub entry : IsEntry e

-- The bytes are a well formed image that reads as these entries: the closed gate is as it is written, or the entry after it
-- is whole. So a crash while that gate is opened or closed again leaves these entries, or one more.
pub record IsImageOf (head bytes : List ℕ) (es : List Entry) : Type 0 where
  pub gate : ℕ
  pub behind : List ℕ
  pub parts : bytes ≡ up_to_gate head es ++ gate ∷ behind
  pub closed : gate ≢ open_gate
  pub safe : (gate ≡ closed_gate) ⊎ ((e : Entry) × IsStaged e behind)
  pub each : AllByRecursion IsEntry es

-- the image reads as these entries, or as them and one more
abbrev pub IsWithOrWithout : List ℕ → List Entry → Entry → List ℕ → Type 0
IsWithOrWithout head es e bytes = IsImageOf head bytes es ⊎ IsImageOf head bytes (es ++ e ∷ [])

-- ---- the moments of an append

-- At rest, and until the sync after the write of the entry: the gate is closed as it is written, and anything follows it.
pub record IsAtRest (head : List ℕ) (es : List Entry) (bytes : List ℕ) : Type 0 where
  pub behind : List ℕ
  pub parts : bytes ≡ up_to_gate head es ++ closed_gate ∷ behind

-- From that sync on: the entry and the next gate are there, and the gate before them is any byte.
pub record IsOpening (head : List ℕ) (es : List Entry) (e : Entry) (more bytes : List ℕ) : Type 0 where
  pub gate : ℕ
  pub parts : bytes ≡ up_to_gate head es ++ gate ∷ (behind_gate e ++ closed_gate ∷ more)

-- ---- as a run begins

-- every image is at rest with these entries
abbrev pub AllAtRest : List ℕ → List Entry → (List ℕ → Type 0) → Type 0
AllAtRest head es images = (c : List ℕ) → images c → IsAtRest head es c

-- in every image this entry is staged after these entries; the gate before it is any byte
abbrev pub AllOpening : List ℕ → List Entry → Entry → (List ℕ → Type 0) → Type 0
AllOpening head es e images = (c : List ℕ) → images c → (more : List ℕ) × IsOpening head es e more c

-- What a run finds, and leaves: all images at rest with these entries, or all with one more staged after them. Of images of both
-- kinds at once, one could have an open gate torn over what is no entry.
pub record Survives (head : List ℕ) (es : List Entry) (images : List ℕ → Type 0) : Type 0 where
  pub each : AllByRecursion IsEntry es
  pub all : AllAtRest head es images ⊎ ((e : Entry) × IsEntry e × AllOpening head es e images)

-- what an append writes after the gate
abbrev pub staged : Entry → List ℕ
staged e = behind_gate e ++ closed_gate ∷ []

-- ---- the laws

-- a write after the closed gate leaves the journal at rest, wherever it is torn
abbrev pub TornBehindTheGate : Type 0
TornBehindTheGate = (head : List ℕ) (es : List Entry) (n : ℕ) (old new : List ℕ) → IsAtRest head es old
    → Torn (length (up_to_gate head es) + 1) n old new → IsAtRest head es new

-- once it is made, the entry follows the gate
abbrev pub WrittenBehindTheGate : Type 0
WrittenBehindTheGate = (head : List ℕ) (es : List Entry) (e : Entry) (old new : List ℕ) → IsAtRest head es old
    → new ≡ take (length (up_to_gate head es) + 1) old ++ staged e ++ drop (length (up_to_gate head es) + 1 + length (staged e)) old
    → (more : List ℕ) × (new ≡ up_to_gate head es ++ closed_gate ∷ (behind_gate e ++ closed_gate ∷ more))

-- a write of the gate changes the gate alone
abbrev pub TornGate : Type 0
TornGate = (head : List ℕ) (es : List Entry) (e : Entry) (more old new : List ℕ) → IsOpening head es e more old
    → Torn (length (up_to_gate head es)) 1 old new → IsOpening head es e more new

-- at rest it reads as its entries, well formed
abbrev pub AtRestIsImage : Type 0
AtRestIsImage = (head : List ℕ) (es : List Entry) (bytes : List ℕ) → AllByRecursion IsEntry es → IsAtRest head es bytes
    → IsImageOf head bytes es

-- while the gate is opened it reads as its entries or as one more, well formed
abbrev pub OpeningIsImage : Type 0
OpeningIsImage = (head : List ℕ) (es : List Entry) (e : Entry) (more bytes : List ℕ) → AllByRecursion IsEntry es → IsEntry e
    → IsOpening head es e more bytes → IsWithOrWithout head es e bytes

-- the journal is at rest again with the entry, once the gate reads 1
abbrev pub OpenedIsAtRest : Type 0
OpenedIsAtRest = (head : List ℕ) (es : List Entry) (e : Entry) (more : List ℕ)
    → IsAtRest head (es ++ e ∷ []) (up_to_gate head es ++ open_gate ∷ (behind_gate e ++ closed_gate ∷ more))

-- one image that is well formed is what a run may find: so is what a crash leaves of a run
abbrev pub OneImageSurvives : Type 0
OneImageSurvives = (head image : List ℕ) (es : List Entry) → IsImageOf head image es → Survives head es (λ c. c ≡ image)

-- a well formed image reads as its entries
abbrev pub ImageReads : Type 0
ImageReads = (head bytes : List ℕ) (es : List Entry) → IsImageOf head bytes es → ReadsAs head bytes es
