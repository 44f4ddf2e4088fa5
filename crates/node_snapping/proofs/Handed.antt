-- Laws of the crates below, passed on.
pub use Rattle.node_serving.proofs.Handed.{Rests, has-hosts, if-reported, rest-stands, still, stops-after, stops-still, reported}
