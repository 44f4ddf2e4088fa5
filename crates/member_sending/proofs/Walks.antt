-- What is left after a walk: a law of the crate below, passed on.
pub use Rattle.sent_claims.proofs.Walks.{drop-past}
