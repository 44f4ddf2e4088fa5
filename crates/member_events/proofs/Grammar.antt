-- What was spelled is read again, a law of a crate below, passed on to those who read events.
pub use Rattle.stmt_codec.proofs.Grammar.{spelling_again}
