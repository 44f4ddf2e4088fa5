-- Laws of the crates below, passed on: what a turn of a hosted process is.
pub use Rattle.node_hosts.proofs.Cores.{verdict-is}
pub use Rattle.node_hosts.proofs.Turning.{takes-live}
