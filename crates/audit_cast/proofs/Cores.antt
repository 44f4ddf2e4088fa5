-- The number of a core: a law of the crates below, passed on.
pub use Rattle.audit_walk.proofs.Cores.{me-so}
