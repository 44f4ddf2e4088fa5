-- What keeps a list of claims: in the words of the crate below, passed on.
pub use Rattle.claim_lists.specs.Kept.{Holding}
