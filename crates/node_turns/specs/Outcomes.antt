-- What an event came to: in the words of the crate below, passed on.
pub use Rattle.node_service.specs.Lines.{IsOutcome}
