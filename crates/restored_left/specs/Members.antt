-- What a member keeps of its process: in the words of the crate below, passed on.
pub use Rattle.member_state.specs.Bounds.{AreFew, IsBounded}
pub use Rattle.member_state.specs.Parts.{IsRanged, Keeps, account, all_signed}
pub use Rattle.member_state.specs.Perceiving.{IsPerceivedOf}
pub use Rattle.member_state.specs.Phases.{IsIn, Phase}
pub use Rattle.member_state.specs.States.{ArePairs, AreRanged, HasProcess, IsDecision, IsReal, IsSigned, IsStateOf, claims_of, signed_here}
pub use Rattle.member_state.specs.declared.left.SaidBefore.{SaidBefore}
pub use Rattle.member_state.specs.declared.state.ProcessState.{ProcessState}
