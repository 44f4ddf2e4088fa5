-- Which claims of a view were signed, and in which ranges they are: in the words of the crate below, passed on.
pub use Rattle.sent_claims.specs.Certificates.{all_signed, IsRanged}
