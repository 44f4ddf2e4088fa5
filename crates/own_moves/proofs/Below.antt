-- Names of the crates below, for those above: they need not name these.
pub use Rattle.member_laws.proofs.Lawful.{hearing_is_lawful, signing_is_lawful, installing_is_lawful}
pub use Rattle.member_laws.proofs.Ranges.{due_is_in_range}
pub use Rattle.member_laws.proofs.Telling.{installing_begins_own, delivering_counts_own}
