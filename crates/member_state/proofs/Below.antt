-- Names of the crates below, for those above: they need not name these.
pub use Rattle.own_moves.proofs.Below.{hearing_is_lawful, signing_is_lawful, installing_is_lawful, due_is_in_range, installing_begins_own, delivering_counts_own}
