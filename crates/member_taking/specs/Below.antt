-- Names of the crates below, for those above: they need not name these.
pub use Rattle.claim_hearing.specs.Hearing.{Shares}
pub use Rattle.claim_hearing.specs.Settings.{as_setting}
pub use Rattle.member_state.specs.Below.{Packing}
