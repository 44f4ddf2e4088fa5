-- The processes of an audit and the walk over their journals, and what a fault says: in the words of the crates below, passed on.
pub use Rattle.audit_sources.specs.Faults.{IsFaultOf}
pub use Rattle.audit_cast.specs.Turns.{Player, Walk, IsPlayer}
