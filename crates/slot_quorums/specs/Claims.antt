-- What is kept of claims: in the words of the crate below, passed on.
pub use Rattle.claim_index.specs.Kept.{Holding, claim_bytes, empty_pool, with_heard}
