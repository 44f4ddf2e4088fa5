-- What an audit finds out of the listed processes: the law of the crate below, passed on.
pub use Rattle.audit_laws.proofs.OfListed.{audit_is_of_listed}
