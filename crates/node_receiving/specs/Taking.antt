-- What becomes of a running node in a part of its run, in the words of the crates below, passed on.
pub use Rattle.node_taking.specs.Taking.{GoesOnTo, HasDiskCause, HasNode, StopsSo, outside}
pub use Rattle.node_taking.specs.Telling.{WritesText}
pub use Rattle.node_taking.specs.Keeping.{at}
