-- The phases of a view: in the words of the crate below, passed on.
pub use Rattle.view_phases.specs.Phases.{IsIn}
pub use Rattle.view_phases.specs.declared.phases.Phase.{Phase}
pub use Rattle.view_phases.specs.declared.phases.Phase.TheVariants.{ClosingView, DecidedView, HaltedView, Observing, OpenView}
