-- What is kept of claims: in the words of the crate below, passed on.
pub use Rattle.claim_index.specs.Kept.{Holding, by_number, claim_bytes, is_kind_heard, with_heard}
