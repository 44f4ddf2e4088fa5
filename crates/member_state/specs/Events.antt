-- What an event of the code, and what comes of it, are in the definitions: in the words of the crate below, passed on.
pub use Rattle.ending_rules.specs.Events.{event, refusal, frame_to, frames_to, note, IsOutcome}
