-- Reading one thing after another, in the words of the crate below, passed on to those who read frames.
pub use Rattle.byte_defs.specs.Fields.{◌>>=◌, refuse_if, number_at, bytes_at}
pub use Rattle.byte_defs.specs.Reads.{Gives, rest_of}
