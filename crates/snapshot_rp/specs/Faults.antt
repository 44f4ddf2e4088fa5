-- The faults of the code, as plain data.
use Rattle.std.specs.Prelude.{ℕ, Option, Some, None}
use Rattle.snapshot_rp.specs.declared.fault.ReadError.{ReadError}
use Rattle.snapshot_rp.specs.declared.fault.ReadError.TheVariants as reads
use Rattle.snapshot_rp.specs.declared.fault.SnapshotFault.{SnapshotFault}
use Rattle.snapshot_rp.specs.declared.fault.SnapshotFault.TheVariants as faults

-- the place of the fault, where it is one of the bytes
abbrev pub fault_of : SnapshotFault → Option ℕ
fault_of (faults.Image place) = Some place
fault_of faults.NoMemory = None

-- how many bytes are left where the fault is, where it is one of the bytes
abbrev pub left_of : ReadError → Option ℕ
left_of (reads.Fault left) = Some left
left_of reads.NoMemory = None
