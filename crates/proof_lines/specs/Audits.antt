-- What an audit finds, as it is reported, and what its faults say: in the words of the crate below, passed on.
pub use Rattle.audit_core.specs.Found.{Evidence, Found, IsFound, evidence, evidence_of}
pub use Rattle.audit_core.specs.Walks.{IsFaultOf}
