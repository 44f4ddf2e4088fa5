-- The setting that a judge's parts make: in the words of the crate below, passed on.
pub use Rattle.claim_pool.specs.Settings.{as_setting}
