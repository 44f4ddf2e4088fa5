-- A lemma of the rules, for the crates above: they need not name that crate.
pub use Rattle.rule_laws.proofs.Notifying.{notified-heard}
