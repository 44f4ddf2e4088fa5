-- Names of the crates below, for those above: they need not name these.
pub use Rattle.member_state.proofs.Ranges.{claims-once, statement-once}
