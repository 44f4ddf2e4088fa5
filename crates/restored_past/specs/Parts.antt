-- What is asked of the parts of an image: in the words of the crate below, passed on.
pub use Rattle.image_parts.specs.Heard.{heard_in}
pub use Rattle.image_parts.specs.InView.{HasEnd, IsDecidedSo, IsInView}
