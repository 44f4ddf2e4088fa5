-- The lines that a node writes and its stops, in the words of the crate below, passed on.
pub use Rattle.node_text.specs.Views.{stop}
pub use Rattle.node_text.specs.declared.stops.Stop.{Stop}
pub use Rattle.node_text.specs.declared.stops.Stop.TheVariants.{Ended, NoMemory, ReadFailed, WriteFailed, DiskFailed, BindFailed, BadKit, BadLine, BadSnap, BadJournal, Full}
pub use Rattle.node_text.specs.Outcomes.{frame_to, frames_to, IsOutcome}
pub use Rattle.node_text.specs.Reported.{note}
pub use Rattle.node_text.specs.Words.{GoesOn}
