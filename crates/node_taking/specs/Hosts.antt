-- Which node a running one is, in the words of the crates below, passed on.
pub use Rattle.sealing_laws.specs.Running.{AreHosts, Host, Hosts, IsAt, IsHost, IsHosted, IsJournalOf, IsNode, AreCountsOf, Counts, count_in, IsPlace, Running, cast_in, numbers_of, place_of}
pub use Rattle.sealing_laws.specs.Letters.{IsFromOther, IsSealable}
