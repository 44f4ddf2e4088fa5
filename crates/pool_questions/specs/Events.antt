-- Events and what comes of them: in the words of the crate below, passed on.
pub use Rattle.member_events.specs.Below.{signed}
pub use Rattle.member_events.specs.declared.events.Event.{Event}
pub use Rattle.member_events.specs.declared.events.Event.TheVariants.{Submit, Frame, Suspect, Join, Renew, Tick}
pub use Rattle.member_events.specs.declared.events.EventVerdict.{EventVerdict}
pub use Rattle.member_events.specs.declared.events.EventVerdict.TheVariants.{Taken, Refused}
pub use Rattle.member_events.specs.declared.events.Note.{Note}
pub use Rattle.member_events.specs.declared.events.Note.TheVariants.{Delivered, Installed, Liar, Spent, Halted}
pub use Rattle.member_events.specs.declared.events.Outcome.{Outcome}
pub use Rattle.member_events.specs.declared.events.Sending.{Sending}
