-- An event of a process, in the words of the crates below, passed on.
pub use Rattle.sealing_laws.specs.Events.{event, Event}
