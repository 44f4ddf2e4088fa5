-- The number of a core's process: in the words of the crate below, passed on.
pub use Rattle.hosted_core.specs.Cores.{me_of}
