-- Names of the crates below, for those above: they need not name these.
pub use Rattle.restored_hosts.specs.Below.{IsSaidFor, IsSnapOf, SnapSaid, snapshot_said, snap_said, ArePartsOf, Snap}
