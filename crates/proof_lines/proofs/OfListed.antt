-- What an audit finds out of the listed processes: the law of a crate below, passed on.
pub use Rattle.audit_core.proofs.OfListed.{audit_is_of_listed}
