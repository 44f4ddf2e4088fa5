-- Why a run stops: in the words of the crate below, passed on.
pub use Rattle.replay_questions.specs.Stops.{NoSuchFrame, TooMuchSent, NoMemory}
