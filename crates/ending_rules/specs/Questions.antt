-- What is asked of a pool: in the words of the crate below, passed on.
pub use Rattle.pool_questions.specs.Certificates.{content_of}
