-- That a turn's entry is in the journal for good.
use Rattle.std.specs.Prelude.{◌≡◌, ℕ, List, [], ◌∷◌, ◌++◌, Option}
use Rattle.journal_defs.specs.Entries.{Entry, IsEntry}
use Rattle.journal_defs.specs.Crashes.{staged}
use Rattle.journal_disk.specs.Disks.{HasRest}

-- The journal is at rest, and its last entry is the one that is staged as these bytes: every image of the disk holds it.
pub record IsLast (seen : Option (List ℕ)) (may_leave : List ℕ → Type 0) (bytes : List ℕ) : Type 0 where
  pub head : List ℕ
  pub before : List Entry
  pub entry : Entry
  pub gate : ℕ
  pub spells : IsEntry entry
  pub staged_as : bytes ≡ staged entry
  pub rest : HasRest seen may_leave head (before ++ entry ∷ []) gate
