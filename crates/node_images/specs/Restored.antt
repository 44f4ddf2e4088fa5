-- Which process one is that was judged by its image: in the words of the crate below, passed on.
pub use Rattle.member_restoring.specs.Restored.{IsRestored, signer_in}
