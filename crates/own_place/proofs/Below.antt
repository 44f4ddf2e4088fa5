-- Names of the crates below, for those above: they need not name these.
pub use Rattle.claim_index.proofs.Unheard.{uncertified, unheard}
