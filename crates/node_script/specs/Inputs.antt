-- What a node reads: in the words of the crate below, passed on.
pub use Rattle.node_input.specs.Kits.{BeginsWith, HasKit, HasNoKit, node_front}
