-- The batch at a place that may be delivered: in the words of the crate below, passed on.
pub use Rattle.multicast_rules.specs.Delivering.{batch_in}
