-- Seats in a run, passed on to those who ask about it.
pub use Rattle.replay_world.proofs.Seats.{Rises, listed_rise}
