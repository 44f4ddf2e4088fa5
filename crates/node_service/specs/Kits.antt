-- Kits and their hosts, in the words of the crate below, passed on.
pub use Rattle.kit_defs.specs.Kits.{AreHosts, Host, IsHost, IsKit, IsSecret, Kit}
