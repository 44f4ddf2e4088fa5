-- Statements and claims in the words of the crates below, passed on to those who read events.
pub use Rattle.stmt_codec.specs.declared.own.OwnClaim.{OwnClaim}
pub use Rattle.stmt_codec.specs.Views.{message, report, stmt, slot, claim, signed}
pub use Rattle.stmt_codec.specs.Batches.{message_of}
pub use Rattle.stmt_codec.specs.Cursor.{given}
pub use Rattle.stmt_codec.specs.Left.{claims_left}
