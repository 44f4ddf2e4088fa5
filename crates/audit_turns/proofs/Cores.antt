-- The number of a core: a law of the crate below, passed on.
pub use Rattle.member_core.proofs.Stepped.{me-so}
