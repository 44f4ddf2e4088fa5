-- That claims in their ranges are so in one way alone: lemmas of the crate below, passed on.
pub use Rattle.restored_present.proofs.Below.{claims-once, statement-once}
