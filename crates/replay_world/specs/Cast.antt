-- Who takes part, in the words of the crate below, passed on to those who read a world.
pub use Rattle.replay_cast.specs.Players.{Core, process_of, Plays, ArePlayers}
unfoldable pub use Rattle.replay_cast.specs.Players.{IsCore}
pub use Rattle.replay_cast.specs.declared.player.Player.{Player}
pub use Rattle.happenings.specs.Events.{liars_of, halted_at}
