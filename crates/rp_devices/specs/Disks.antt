-- A disk in memory.
use Rattle.std.specs.Prelude.{◌≡◌, ℕ, List, [], ◌∷◌, ◌++◌, Vec}
use Rattle.std.specs.declared.alloc.Global.{Global}
use Rattle.rp_devices.specs.declared.calls.Calls.{Calls}
use Rattle.rp_devices.specs.declared.change.Change.{Change}
use Rattle.rp_devices.specs.declared.mem_disk.MemDisk.{MemDisk}
use Rattle.rp_devices.specs.declared.change.Change.TheVariants.{Wrote}
use Rattle.rp_devices.specs.Held.{Held, opened, after, put}

-- the bytes that it began with
abbrev pub first_bytes : MemDisk → List ℕ
first_bytes d = d.first.items

-- what was changed since, in order
abbrev pub log_of : MemDisk → List Change
log_of d = d.log.items

abbrev pub disk_calls : MemDisk → Calls
disk_calls d = d.calls

-- what a read gives
abbrev pub disk_bytes : MemDisk → List ℕ
disk_bytes d = d.bytes.items

-- what it holds now
abbrev pub held : MemDisk → Held
held d = after (opened (first_bytes d)) (log_of d)

-- a write was remembered and made
pub record IsWritten (old new : MemDisk) (at : ℕ) (piece : List ℕ) : Type 0 where
  pub copy : Vec ℕ Global
  pub copied : copy.items ≡ piece
  pub log : log_of new ≡ log_of old ++ Wrote at copy ∷ []
  pub bytes : disk_bytes new ≡ put (disk_bytes old) at piece
