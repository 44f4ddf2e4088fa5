-- Events and what comes of them, in the words of the crate below, passed on to those who report them.
pub use Rattle.member_state.specs.Events.{event, refusal, note, frame_to, frames_to, IsOutcome}
pub use Rattle.member_state.specs.States.{liars_of, halted_at}
pub use Rattle.member_state.specs.Parts.{fault}
