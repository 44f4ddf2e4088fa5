-- Laws of the crates below, passed on.
pub use Rattle.sealing_laws.proofs.Passed.{IsAmong, by-fault, is-one, none-done, one-done}
pub use Rattle.sealing_laws.proofs.Sealed.{sends_can_be_sealed}
