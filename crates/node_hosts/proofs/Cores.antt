-- What an event comes to is what refuses it, or nothing does: a law of the crate below, passed on.
pub use Rattle.hosted_core.proofs.Cores.{verdict-is}
-- and so is that a core has the number of its process
pub use Rattle.hosted_core.proofs.Cores.{me-so}
