-- What was spelled is read again, a law of the crate below, passed on to those who read claims.
pub use Rattle.statements.proofs.Grammar.{spelling_again}
