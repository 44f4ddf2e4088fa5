-- Names of the crates below, for those above: they need not name these.
pub use Rattle.node_input.specs.Reads.{TakesNone}
