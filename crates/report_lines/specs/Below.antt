-- Names of the crates below, for those above: they need not name these.
pub use Rattle.ending_rules.specs.Events.{IsOutcome, frame_to, frames_to, note}
pub use Rattle.ending_rules.specs.Perceiving.{fault}
