-- Names of the crates below, for those above: they need not name these.
pub use Rattle.pool_laws.proofs.Growing.{is_certified-stays}
pub use Rattle.pool_laws.proofs.Grown.{certified-stays, heard_on-new, is-certified, new-certified, none-stays, one_certified, other_certified}
pub use Rattle.pool_laws.proofs.Heard.{heard-says}
pub use Rattle.pool_laws.proofs.Members.{Mem, filter-mem, list_any-mem, mem-map, some-mem}
pub use Rattle.pool_laws.proofs.Places.{Pairs, all-pairs, mem-slice_get, slice_get-front, slice_get-last}
pub use Rattle.pool_laws.proofs.Slots.{is-same_slot, is-same_statement, same_slot-is, same_statement-is}
pub use Rattle.pool_laws.proofs.Sorting.{below-by_number, by_number, length-sorted, mem-sorted}
pub use Rattle.pool_laws.proofs.Tests.{and-first, and-second, map-some, none-some, some-and, some-same}
