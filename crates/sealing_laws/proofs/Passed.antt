-- Laws of the crates below, passed on.
pub use Rattle.node_turns.proofs.Passed.{IsAmong, by-fault, is-one, none-done, one-done, takes-live, verdict-is}
