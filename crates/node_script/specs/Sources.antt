-- How an input is seen, in the words of the crate below, passed on.
pub use Rattle.node_input.specs.Sources.{IsSeen, SeenAs}
unfoldable pub use Rattle.node_input.specs.Reads.{most_line_bytes}
pub use Rattle.node_input.specs.Reads.{line_limit}
