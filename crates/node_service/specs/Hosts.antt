-- The processes that a node hosts, in the words of the crates below, passed on.
unfoldable pub use Rattle.node_hosts.specs.Cores.{IsCore}
pub use Rattle.node_hosts.specs.Cores.{Core, Hosted, Taken, Turn, IsOutcome, IsReal, TakesTurn, core_of, event, fault, hosted_in, signer_of, turn_of, AnySigner, used, total, signature, is_valid}
pub use Rattle.node_hosts.specs.Places.{IsHost, IsHosted, IsPlace}
pub use Rattle.node_hosts.specs.Hosts.{AreHosts, numbers_of, place_of, HasHosts}
pub use Rattle.node_hosts.specs.Turns.{TakesLive}
pub use Rattle.node_hosts.specs.Counts.{AreCountsOf, count_in}
pub use Rattle.node_hosts.specs.Nodes.{IsAt, AreKeyed, IsJournalOf, IsNode, cast_in}
pub use Rattle.node_hosts.specs.declared.counts.Counts.{Counts}
pub use Rattle.node_hosts.specs.declared.host.Host.{Host}
pub use Rattle.node_hosts.specs.declared.hosts.Hosts.{Hosts}
pub use Rattle.node_hosts.specs.declared.running.Running.{Running}
pub use Rattle.node_hosts.specs.Numbers.{me_of}
