-- Laws of the crates below, passed on: the claims of a certificate are in range.
pub use Rattle.sent_claims.proofs.Certified.{certificate-ranged}
