-- Equal slots: a law of the crate below, passed on.
pub use Rattle.pool_laws.proofs.Slots.{is-same_slot}
