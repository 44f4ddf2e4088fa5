-- What keeps claims, and pairs of them: in the words of the crate below, passed on.
pub use Rattle.claim_lists.specs.Kept.{Holding}
pub use Rattle.claim_lists.specs.Pairs.{Pairing}
