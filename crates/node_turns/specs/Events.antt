-- An event of a process, in the words of the crate below, passed on.
pub use Rattle.node_service.specs.Events.{event, Event}
