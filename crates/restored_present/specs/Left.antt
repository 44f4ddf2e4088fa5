-- How an image's process left its views, and in which setting that is judged: in the words of the crate below, passed on.
pub use Rattle.restored_left.specs.Judged.{Judges}
pub use Rattle.restored_left.specs.Parts.{HasPast, IsLeftSo}
pub use Rattle.restored_left.specs.Facts.{Shares, AreByPlace, installed_from}
