-- How many messages of a member a process has delivered, a law of the crate below, passed on to the rules.
pub use Rattle.claim_pool.proofs.Judged.{count-is}
