-- What is asked of the parts of an image: in the words of the crates below, passed on.
pub use Rattle.claim_hearing.specs.Hearing.{Shares}
pub use Rattle.claim_hearing.specs.Settings.{as_setting}
pub use Rattle.kept_images.specs.Facts.{AreAccepted, AreConflicts, AreOwn, ArePerceived, IsHaltedSo, AreByPlace, own_delivered}
pub use Rattle.restored_past.specs.Parts.{HasEnd, IsDecidedSo, IsInView, heard_in}
pub use Rattle.restored_past.specs.Installed.{installed_from}
pub use Rattle.restored_place.specs.Places.{SignedOnce, IsOwnSoFar}
