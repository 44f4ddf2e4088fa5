-- What a process perceives and asks for: in the words of the crate below, passed on.
pub use Rattle.ending_rules.specs.Perceiving.{IsPerceivedOf, asking}
pub use Rattle.ending_rules.specs.declared.notifies.Perceived.{Perceived}
