-- When a node stops with a failed disk.
use Rattle.std.specs.Prelude.{◌≡◌, ℕ, ◌≤◌, Result, Ok, Err}
use Rattle.rp_base.specs.Causes.{Rose}
use Rattle.journal_rp.specs.declared.fault.JournalFault.{JournalFault}
use Rattle.journal_rp.specs.declared.fault.JournalFault.TheVariants as faults
use Rattle.node_defs.specs.Lines.{Stop, NoMemory, DiskFailed, BadJournal, Full}
use Rattle.node_service.specs.Lines.{stop, Stop as CodeStop}

-- how a node stops where a call of its journal failed so
abbrev pub stop_of_fault : JournalFault → Stop
stop_of_fault faults.DiskFault = DiskFailed
stop_of_fault faults.NotAJournal = BadJournal 0
stop_of_fault (faults.Entry place) = BadJournal place
stop_of_fault (faults.Other place) = BadJournal place
stop_of_fault (faults.Full length entry) = Full length entry
stop_of_fault faults.NoMemory = NoMemory

-- a stop with a failed disk comes only where the disk's count of faults rose, and with each other stop the count stays
abbrev pub StopsByDisk : ℕ → ℕ → Stop → Type 0
StopsByDisk before now DiskFailed = (before ≤ now) × Rose before now
StopsByDisk before now _ = now ≡ before

abbrev pub HasDiskCause : {T : Type 0} → ℕ → ℕ → Result T CodeStop → Type 0
HasDiskCause before now (Ok x) = now ≡ before
HasDiskCause before now (Err why) = StopsByDisk before now (stop why)
