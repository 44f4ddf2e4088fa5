-- The word of each phase, and which phase a word of the code is: in the words of the crates below, passed on.
pub use Rattle.replay_defs.specs.Reports.{phase_name}
pub use Rattle.view_phases.specs.Phases.{word}
