-- The service of a node, in the words of the crates below, passed on.
pub use Rattle.node_service.specs.Answers.{CanBeSent, HasNone, IsAbove, SaysTo, letters_in, named_by}
pub use Rattle.node_service.specs.Words.{note}
pub use Rattle.node_service.specs.Silent.{AreNothing}
