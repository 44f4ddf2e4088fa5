-- Names of the crates below, for those above: they need not name these.
pub use Rattle.view_phases.specs.Phases.{IsIn, IsClosing, decided, decision_of, IsHalted, counts, decides}
pub use Rattle.view_phases.specs.declared.phases.ClosingView.{ClosingView}
pub use Rattle.view_phases.specs.declared.phases.Phase.{Phase}
pub use Rattle.view_phases.specs.Delivering.{batch_in}
pub use Rattle.view_phases.specs.declared.phases.DecidedView.{DecidedView}
pub use Rattle.view_phases.specs.declared.phases.Decision.{Decision}
pub use Rattle.view_phases.specs.declared.phases.HaltedView.{HaltedView}
pub use Rattle.ending_rules.specs.Questions.{content_of}
pub use Rattle.reliable_mcast.specs.Packed.{Packing}
pub use Rattle.own_moves.specs.Below.{IsLawful, Begins, OnePlaceMore}
