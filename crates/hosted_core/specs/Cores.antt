-- Which process a core is, what a turn of it is, and what an entry is to it: in the words of the crate below, passed on.
unfoldable pub use Rattle.member_core.specs.Cores.{IsCore}
pub use Rattle.member_core.specs.Cores.{Shares, left_of, me_of, signer_of, turn_of}
pub use Rattle.member_core.specs.Entries.{Agrees, Absorbs}
pub use Rattle.member_core.specs.Events.{event, fault, IsOutcome}
pub use Rattle.member_core.specs.declared.member.Core.{Core}
