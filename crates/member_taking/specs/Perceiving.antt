-- What a process perceives and asks for: in the words of the crate below, passed on.
pub use Rattle.member_state.specs.Parts.{fault}
pub use Rattle.member_state.specs.Perceiving.{asking}
