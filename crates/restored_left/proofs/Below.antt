-- Lemmas of the crates below, passed on.
pub use Rattle.member_state.proofs.Ranges.{claims-once, statement-once}
pub use Rattle.restored_past.proofs.Certain.{value_certain}
