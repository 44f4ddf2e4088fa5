-- A process that starts is lawful: a law of the crate below, passed on.
pub use Rattle.member_laws.proofs.Lawful.{start_is_lawful}
