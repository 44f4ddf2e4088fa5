-- What a run of a schedule comes to: in the words of the crates below, passed on.
pub use Rattle.replay_questions.specs.Runs.{World, WorldFault}
pub use Rattle.replay_questions.specs.Worlds.{Happens, IsFault, IsWorldOf, Shows, Stops, count_of}
