-- Names of the crates below, for those above: they need not name these.
pub use Rattle.member_laws.specs.Lawful.{IsLawful}
pub use Rattle.member_laws.specs.Telling.{Begins, OnePlaceMore}
