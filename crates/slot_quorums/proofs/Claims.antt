-- What is kept of claims: in the words of the crate below, passed on.
pub use Rattle.claim_index.proofs.Sets.{has-put_once}
