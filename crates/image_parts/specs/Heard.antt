-- The pool in which a list of claims is heard: in the words of the crates below, passed on.
pub use Rattle.heard_images.specs.Hearing.{heard_in}
pub use Rattle.claim_pool.specs.Verdicts.{with_own}
