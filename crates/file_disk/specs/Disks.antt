-- A file as a disk: how often it failed, and what became of it.
use Rattle.std.specs.Prelude.{◌≡◌, ℕ, List, Bool, true, Result, IsErr, None, ⊤}
use Rattle.std.specs.declared.option.Option.{Option}
use Rattle.file_disk.specs.declared.disk.FileDisk.{FileDisk}
use Rattle.file_disk.specs.Files.{is_open, is_lost}

abbrev pub disk_faults : {R F D : Type 0} → FileDisk R F D → ℕ
disk_faults d = d.faults

-- the file is open
abbrev pub disk_is_open : {R F D : Type 0} → FileDisk R F D → Bool
disk_is_open d = is_open d.file

-- opening the file failed, or a sync of it
abbrev pub disk_is_lost : {R F D : Type 0} → FileDisk R F D → Bool
disk_is_lost d = is_lost d.file

-- once it is lost, each call fails and it stays lost
abbrev pub StaysLostDisk : {R F D T E : Type 0} → FileDisk R F D → FileDisk R F D → Result T E → Type 0
StaysLostDisk old new result = disk_is_lost old ≡ true → IsErr result × (disk_is_lost new ≡ true)

-- it doesn't say what it holds
abbrev pub untold : Option (List ℕ)
untold = None

-- so any bytes may be left by a crash
abbrev pub any_bytes : List ℕ → Type 0
any_bytes c = ⊤

-- and might have been since any moment
abbrev pub any_since : ℕ → List ℕ → Type 0
any_since t c = ⊤
