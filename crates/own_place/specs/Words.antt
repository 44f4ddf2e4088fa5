-- The words for an own place: those of the crates below, passed on.
pub use Rattle.claim_index.specs.Statements.{report}
pub use Rattle.claim_index.specs.Keys.{slot_key, same_slot_key}
pub use Rattle.claim_index.specs.Kept.{empty_pool}
