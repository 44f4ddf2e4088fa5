-- Whether a message is counted at a place: in the words of the laws below, passed on.
pub use Rattle.rule_laws.specs.Placing.{counts_in}
