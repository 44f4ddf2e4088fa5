-- Laws of the crate below, passed on.
pub use Rattle.node_service.proofs.Among.{IsAmong, is-one, none-done, one-done}
pub use Rattle.node_service.proofs.Laws.{takes-live, verdict-is}
pub use Rattle.node_service.proofs.Stopped.{by-fault}
