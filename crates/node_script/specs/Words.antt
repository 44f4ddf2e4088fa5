-- A running node and what becomes of it, in the words of the crates below, passed on.
pub use Rattle.node_snapping.specs.Hosts.{Running, IsAt, IsNode, cast_in, numbers_of}
pub use Rattle.node_snapping.specs.Snapping.{snapper}
pub use Rattle.node_snapping.specs.Stops.{stop, Stop, StopsByDisk}
pub use Rattle.node_snapping.specs.Taking.{HasDiskCause, HasNode, StopsSo, outside}
