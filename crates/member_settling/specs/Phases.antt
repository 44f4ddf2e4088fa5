-- The phases of a view, in the words of the crates below, passed on.
pub use Rattle.member_state.specs.Phases.{Observing, OpenView, ClosingView, DecidedView, HaltedView}
