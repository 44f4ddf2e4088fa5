-- What the line of a snapshot says: in the words of the crate below, passed on.
pub use Rattle.snapshot_lines.specs.Said.{Part, SnapSaid, no_image, part_of, snap_said, snapshot_said}
pub use Rattle.snapshot_lines.specs.Views.{ArePartsOf}
