-- The phases of a view: in the words of the crate below, passed on.
pub use Rattle.member_state.specs.Phases.{ClosingView, DecidedView, HaltedView, Observing, OpenView}
