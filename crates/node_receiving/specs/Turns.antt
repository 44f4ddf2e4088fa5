-- A turn that a hosted process took, in the words of the crate below, passed on.
pub use Rattle.node_taking.specs.Turns.{HasHosts}
pub use Rattle.node_taking.specs.Hosts.{IsSealable}
