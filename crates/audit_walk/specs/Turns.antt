-- A process whose journals are audited, and the walk over them: in the words of the crate below, passed on.
pub use Rattle.audit_turns.specs.declared.player.Player.{Player}
pub use Rattle.audit_turns.specs.declared.walk.Walk.{Walk}
pub use Rattle.audit_turns.specs.Cores.{Shares}
pub use Rattle.audit_turns.specs.Players.{IsPlayer, begun}
pub use Rattle.audit_turns.specs.Walks.{IsWalk, all_signed, with_player}
