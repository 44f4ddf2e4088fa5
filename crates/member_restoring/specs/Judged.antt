-- In which setting an image is judged: in the words of the crate below, passed on.
pub use Rattle.restored_present.specs.Left.{Judges}
