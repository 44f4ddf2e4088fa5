-- Names of the crates below, for those above: they need not name these.
pub use Rattle.pool_laws.proofs.Counting.{length-filter-few}
pub use Rattle.pool_laws.proofs.Heard.{certified_on-is}
pub use Rattle.pool_laws.proofs.Members.{Mem, filter-mem, mem-some, none-in}
pub use Rattle.pool_laws.proofs.Ranks.{at-rank}
pub use Rattle.pool_laws.proofs.Sorting.{length-sorted}
pub use Rattle.pool_laws.proofs.Tests.{neither, not-false, then-some}
