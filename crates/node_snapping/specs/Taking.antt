-- What becomes of a running node in a part of its run, in the words of the crates below, passed on.
pub use Rattle.node_serving.specs.Taking.{GoesOnTo, HasDiskCause, HasNode, WritesText, StopsSo, at, outside}
