-- The set of notified updates, in the words of the crate below, passed on to those who ask a pool.
pub use Rattle.pool_values.specs.Updates.{has_update, AreNotified}
pub use Rattle.pool_values.specs.declared.updates.UpdateSet.{UpdateSet}
