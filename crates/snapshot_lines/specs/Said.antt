-- What the line of a snapshot says: in the words of the crate below, passed on.
pub use Rattle.resume_laws.specs.Said.{Part, SnapSaid, no_image, part_of, snap_said, snapshot_said}
-- an image as plain data
pub use Rattle.snapshot_rp.specs.Views.{image}
