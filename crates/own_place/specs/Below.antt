-- Names of the crates below, for those above: they need not name these.
pub use Rattle.claim_index.specs.Kept.{is_kind_heard}
