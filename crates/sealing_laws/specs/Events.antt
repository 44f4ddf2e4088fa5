-- An event of a process, in the words of the crates below, passed on.
pub use Rattle.node_turns.specs.Events.{event, Event}
