-- The lines of a node: in the words of the crate below, passed on.
pub use Rattle.node_text.specs.Views.{handed, line, said}
pub use Rattle.node_text.specs.declared.handed.Handed.{Handed}
pub use Rattle.node_text.specs.declared.script.Line.{Line}
pub use Rattle.node_text.specs.declared.script.Said.{Said}
pub use Rattle.node_text.specs.declared.script.Said.TheVariants.{Hand, Other, Receive}
