-- What statements say: in the words of the crates below, passed on.
pub use Rattle.claim_index.specs.Statements.{claim, stmt}
