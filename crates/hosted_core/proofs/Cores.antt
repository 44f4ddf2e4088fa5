-- A core and its process: laws of the crate below, passed on.
pub use Rattle.member_core.proofs.Stepped.{me-so, with-rule}
pub use Rattle.member_core.proofs.Joined.{after-me}
pub use Rattle.member_core.proofs.Spelled.{verdict-is}
