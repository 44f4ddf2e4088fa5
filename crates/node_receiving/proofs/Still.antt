-- A node whose journal stays as it is: laws of the crate below, passed on.
pub use Rattle.node_taking.proofs.Still.{Rests, at-rest, if-reported, left-at-first, rest-stands, still, stops-after, stops-still, reported}
