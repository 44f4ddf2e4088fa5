-- The words for a run, passed on to those who ask about it.
pub use Rattle.replay_world.specs.Worlds.{Shows, Happens, Stops, IsFault, IsWorldOf, IsRun, count_of}
pub use Rattle.replay_world.specs.Stepping.{refused}
