-- Names of the crates below, for those above: they need not name these.
pub use Rattle.pool_laws.proofs.Members.{Mem, mem-list_any}
pub use Rattle.pool_laws.proofs.Places.{slice_get-index, slice_get-length, slice_get-snoc, take-get}
pub use Rattle.pool_laws.proofs.Ranks.{rank-of-member}
