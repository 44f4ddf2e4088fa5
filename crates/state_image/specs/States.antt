-- Which process a state is, when what it keeps is in range, and an image as plain data: in the words of the crates below, passed on.
pub use Rattle.member_settling.specs.Below.{HasProcess, IsReal, IsStateOf, claims_of, IsRanged, all_signed, ProcessState, SaidBefore}
pub use Rattle.snapshot_rp.specs.Views.{image}
