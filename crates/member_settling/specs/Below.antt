-- Names of the crates below, for those above: they need not name these.
pub use Rattle.member_state.specs.Parts.{IsRanged, all_signed}
pub use Rattle.member_state.specs.States.{HasProcess, IsReal, IsStateOf, claims_of}
pub use Rattle.member_state.specs.declared.left.SaidBefore.{SaidBefore}
pub use Rattle.member_state.specs.declared.state.ProcessState.{ProcessState}
pub use Rattle.member_state.specs.Below.{IsIn, decision_of, DecidedView, Decision, HaltedView, Phase}
