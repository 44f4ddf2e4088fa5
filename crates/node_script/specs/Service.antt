-- The service of a node, in the words of the crates below, passed on.
pub use Rattle.node_snapping.specs.Service.{AreNothing, CanBeSent, HasNone, IsAbove, SaysTo, letters_in, named_by, note}
