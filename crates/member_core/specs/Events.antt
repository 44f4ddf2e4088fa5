-- An event and its outcome, in the words of the crate below, passed on to those who replay.
pub use Rattle.member_signing.specs.States.{event, refusal, IsOutcome}
pub use Rattle.member_sending.specs.Taking.{fault}
