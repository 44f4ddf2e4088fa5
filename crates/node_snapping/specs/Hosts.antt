-- Which node a running one is, in the words of the crates below, passed on.
pub use Rattle.node_serving.specs.Hosts.{AreCountsOf, AreHosts, Counts, Host, Hosts, IsAt, IsFromOther, IsHost, IsHosted, IsJournalOf, IsNode, IsPlace, Running, cast_in, count_in, numbers_of, place_of, HasHosts}
