-- The events that a line hands to a process: in the words of the crate below, passed on.
pub use Rattle.node_text.specs.declared.handed.Handed.TheVariants.{Submit, Suspect, Join, Renew, Tick}
