-- In the words of the crate below, passed on.
pub use Rattle.report_lines.specs.Below.{IsOutcome, frame_to, frames_to}
