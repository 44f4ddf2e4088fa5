-- Names of the crates below, for those above: they need not name these.
pub use Rattle.node_hosts.proofs.Again.{all-here}
pub use Rattle.node_hosts.proofs.Cores.{me-so}
