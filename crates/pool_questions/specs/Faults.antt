-- Why an event is refused: in the words of the crate below, passed on.
pub use Rattle.member_events.specs.declared.events.EventFault.{EventFault}
pub use Rattle.member_events.specs.declared.events.EventFault.TheVariants.{HaltedNow, BadFrame, Outsider, TooLong, Backlog, NoKey, NoNext}
