-- A process whose journals are audited, and the walk over them: in the words of the crates below, passed on.
pub use Rattle.audit_walk.specs.Turns.{Player, Walk, IsPlayer, IsWalk, all_signed}
