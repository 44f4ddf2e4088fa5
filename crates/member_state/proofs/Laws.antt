-- Laws of the crates below, passed on: the claims of a certificate are in range.
pub use Rattle.reliable_mcast.proofs.Laws.{certificate-ranged}
