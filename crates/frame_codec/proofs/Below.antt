-- What a reader that succeeded has found, laws of the crate below, passed on to those who read frames.
pub use Rattle.byte_defs.proofs.Fields.{bind_ok, refuse_ok, guard_ok, ok_is}
