-- What a service is handed, in the words of the crates below, passed on.
unfoldable pub use Rattle.node_hosts.specs.Cores.{IsCore}
pub use Rattle.node_hosts.specs.Cores.{Core, Hosted, core_of}
pub use Rattle.node_hosts.specs.Hosts.{AreHosts, numbers_of}
pub use Rattle.node_hosts.specs.Places.{IsHosted}
pub use Rattle.rp_base.specs.PidsLeft.{pids_left}
pub use Rattle.node_text.specs.Reported.{note}
pub use Rattle.journal_entries.specs.Views.{event}
