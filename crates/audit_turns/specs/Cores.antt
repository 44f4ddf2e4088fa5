-- What a member of a group shares with those that check it: in the words of the crate below, passed on.
pub use Rattle.member_core.specs.Cores.{Shares}
