-- What a process is between events: in the words of the crate below, passed on.
pub use Rattle.member_state.specs.Events.{IsOutcome, event, frame_to, frames_to, note, refusal}
pub use Rattle.member_state.specs.Marks.{HasLeft, MayAsk, Since, Stays}
pub use Rattle.member_state.specs.Parts.{account, word}
pub use Rattle.member_state.specs.States.{HasProcess, IsReal, IsStateOf, halted_at, kept_of, liars_of, signed_here}
pub use Rattle.member_state.specs.declared.left.LeftView.{LeftView}
pub use Rattle.member_state.specs.declared.marks.Before.{Before}
pub use Rattle.member_state.specs.declared.state.ProcessState.{ProcessState}
