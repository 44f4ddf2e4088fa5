-- What holds of a process at each moment of an event: in the words of the crate below, passed on.
pub use Rattle.member_laws.specs.Lawful.{IsLawful}
