-- Laws of this crate that those above cite, passed on.
pub use Rattle.node_turns.proofs.Sent.{on-err}
pub use Rattle.node_turns.proofs.Reported.{begun-nothing, untold-by}
pub use Rattle.node_turns.proofs.Turned.{leaving-is, letters-are}
