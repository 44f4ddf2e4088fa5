-- Names of the crates below, for those above: they need not name these.
pub use Rattle.node_service.proofs.Among.{IsAmong, none-done, one-done, is-one}
pub use Rattle.node_service.proofs.Stopped.{by-disk, by-no-disk}
