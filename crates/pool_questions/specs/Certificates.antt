-- What a certificate says, in the words of the crate below, passed on to the rules.
pub use Rattle.claim_pool.specs.Certificates.{content_of}
