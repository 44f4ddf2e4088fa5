-- Names of the crates below, for those above: they need not name these.
pub use Rattle.member_taking.specs.Below.{Shares, as_setting}
