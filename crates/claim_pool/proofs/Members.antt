-- Members of lists: laws of the crate below, passed on.
pub use Rattle.pool_values.proofs.Below.{Mem, mem-some, none-in, filter-mem}
