-- What is taken in: in the words of the crate below, passed on.
pub use Rattle.member_taking.specs.Inputs.{InRange, asks, handed}
pub use Rattle.member_taking.specs.Perceiving.{asking, fault}
pub use Rattle.member_taking.specs.declared.inputs.Input.{Input}
pub use Rattle.member_taking.specs.declared.inputs.Input.TheVariants.{Claims, Payload, Tick, Update, Want}
