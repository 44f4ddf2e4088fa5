-- What a run of a schedule comes to: in the words of the crates below, passed on.
pub use Rattle.replay_questions.proofs.Seats.{Rises, listed_rise}
