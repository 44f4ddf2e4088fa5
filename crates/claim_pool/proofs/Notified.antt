-- A lemma of the rules, for the crates above: they need not name that crate.
pub use Rattle.own_place.proofs.Notified.{notified-heard}
