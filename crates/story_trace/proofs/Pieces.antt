-- What is pushed after one piece and the next: a law of the crate below, passed on.
pub use Rattle.story_words.proofs.Pieces.{behind}
