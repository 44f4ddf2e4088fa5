-- Lemmas of the crates below, passed on.
pub use Rattle.restored_left.proofs.Below.{claims-once, statement-once, value_certain}
pub use Rattle.restored_left.proofs.Lists.{each-all, few-of}
