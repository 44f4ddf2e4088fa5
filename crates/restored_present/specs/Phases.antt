-- The phases of a view: in the words of the crates below, passed on.
pub use Rattle.restored_left.specs.Members.{Phase}
pub use Rattle.restored_left.specs.Phases.{ClosingView, DecidedView, HaltedView, Observing, OpenView}
