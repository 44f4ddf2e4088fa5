-- Why a node ends, in the words of the crates below, passed on.
pub use Rattle.node_receiving.specs.Stops.{stop, Stop, Ended, NoMemory, ReadFailed, WriteFailed, DiskFailed, BindFailed, BadKit, BadLine, BadSnap, BadJournal, Full, StopsByDisk, stop_of_fault}
