-- Who takes part in a run, passed on to those who ask about it.
pub use Rattle.replay_world.specs.Cast.{Core, Player, process_of, Plays, ArePlayers, liars_of, halted_at}
unfoldable pub use Rattle.replay_world.specs.Cast.{IsCore}
