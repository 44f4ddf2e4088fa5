-- Laws of the crates below, passed on.
pub use Rattle.node_taking.proofs.Answered.{says-cause}
pub use Rattle.node_taking.proofs.Ends.{Ends, ends-after, forgets, says-on, says-stops}
pub use Rattle.node_taking.proofs.Expelled.{has-hosts}
pub use Rattle.node_taking.proofs.Handed.{IsAmong, by-fault, is-one, none-done, one-done, sends_can_be_sealed}
pub use Rattle.node_taking.proofs.Lent.{Lends, host-is, not-missing}
pub use Rattle.node_taking.proofs.Lines.{flush-failed, flushed-so, flushes-does, with_lines}
pub use Rattle.node_taking.proofs.Machine.{answers, as-it-was, at-so}
pub use Rattle.node_taking.proofs.Whole.{is-now, sound-on}
