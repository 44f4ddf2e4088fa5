-- An event of a process, in the words of the crates below, passed on.
pub use Rattle.journal_entries.specs.Views.{event}
pub use Rattle.member_events.specs.declared.events.Event.{Event}
