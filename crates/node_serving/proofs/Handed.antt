-- Laws of the crates below, passed on.
pub use Rattle.node_receiving.proofs.Handed.{Ends, IsAmong, answers, as-it-was, at-so, by-fault, ends-after, forgets, has-hosts, is-now, is-one, none-done, one-done, says-cause, says-on, says-stops, sound-on}
pub use Rattle.node_receiving.proofs.Still.{Rests, at-rest, if-reported, left-at-first, rest-stands, still, stops-after, stops-still, reported}
