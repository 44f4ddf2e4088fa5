-- What statements say: in the words of the crate below, passed on.
pub use Rattle.stmt_codec.specs.Batches.{message_of}
pub use Rattle.stmt_codec.specs.Views.{message, report, slot, stmt, claim}
