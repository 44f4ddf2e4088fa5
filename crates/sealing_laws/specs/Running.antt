-- A running node and what is around it, and why it ends: in the words of the crates below, passed on.
unfoldable pub use Rattle.node_turns.specs.Running.{IsCore}
pub use Rattle.node_turns.specs.Running.{Core, Hosted, Taken, Turn, IsOutcome, IsReal, TakesTurn, core_of, event, fault, hosted_in, signer_of, turn_of, AnySigner, used, total, signature, is_valid, IsHost, IsHosted, IsPlace, AreHosts, numbers_of, place_of, TakesLive, AreCountsOf, count_in, IsAt, AreKeyed, IsJournalOf, IsNode, cast_in, Counts, Host, Hosts, Running}
pub use Rattle.node_turns.specs.Running.{stop, Stop, Ended, NoMemory, ReadFailed, WriteFailed, DiskFailed, BindFailed, BadKit, BadLine, BadSnap, BadJournal, Full}
pub use Rattle.node_turns.specs.Running.{HasDiskCause, StopsByDisk, stop_of_fault, outside}
