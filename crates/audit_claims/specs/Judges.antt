-- What those that check claims share with a setting: in the words of the crate below, passed on.
pub use Rattle.claim_hearing.specs.Hearing.{Shares}
