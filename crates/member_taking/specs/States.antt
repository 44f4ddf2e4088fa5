-- What a process is between events: in the words of the crate below, passed on.
pub use Rattle.member_state.specs.Events.{frame_to, frames_to}
pub use Rattle.member_state.specs.States.{IsReal, IsStateOf, signed_here}
pub use Rattle.member_state.specs.declared.state.ProcessState.{ProcessState}
