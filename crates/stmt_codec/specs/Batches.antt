-- The messages of a batch, in the words of the crate below, passed on to those who read claims.
pub use Rattle.statements.specs.Batches.{message, message_of}
