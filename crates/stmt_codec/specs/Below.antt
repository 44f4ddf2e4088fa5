-- Reading one thing after another, in the words of a crate below, passed on to those who read claims.
pub use Rattle.frame_codec.specs.Below.{◌>>=◌, rest_of}
