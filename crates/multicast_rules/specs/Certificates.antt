-- What a certificate says, in the words of the crates below, passed on to the phases.
pub use Rattle.pool_questions.specs.Certificates.{content_of}
