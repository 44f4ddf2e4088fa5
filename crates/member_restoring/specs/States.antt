-- Which process a state is, and when an image is in range: in the words of the crates below, passed on.
pub use Rattle.restored_present.specs.Members.{HasProcess, IsRanged, IsReal, IsStateOf, ProcessState, SaidBefore, all_signed, claims_of}
pub use Rattle.snapshot_defs.specs.Ranges.{IsImage}
pub use Rattle.snapshot_defs.specs.declared.Version.TheVariants.{Two}
