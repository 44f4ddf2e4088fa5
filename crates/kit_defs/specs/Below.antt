-- Names of the crates below, for those above: they need not name these.
pub use Rattle.text_defs.specs.Words.{line_feed, line_text}
