-- Names of the crates below, for those above: they need not name these.
pub use Rattle.node_images.specs.Judging.{IsSnapOf, IsSaidFor}
pub use Rattle.node_images.specs.Said.{SnapSaid, ArePartsOf, snapshot_said, snap_said}
pub use Rattle.node_images.specs.declared.snap.Snap.{Snap}
pub use Rattle.node_service.specs.Answers.{HasAnswered}
pub use Rattle.node_service.specs.Causes.{stop_of_fault, StopsByDisk, HasDiskCause}
unfoldable pub use Rattle.node_service.specs.Hosts.{IsCore}
pub use Rattle.node_service.specs.Hosts.{Hosts, AreHosts, Counts, count_in, Running, cast_in, numbers_of, Core, IsNode}
pub use Rattle.node_service.specs.Lines.{stop}
pub use Rattle.node_service.specs.Outside.{outside}
