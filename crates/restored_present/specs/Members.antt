-- What a member keeps of its process: in the words of the crates below, passed on.
pub use Rattle.own_place.specs.Owns.{IsOwnOf}
pub use Rattle.restored_left.specs.Members.{AreFew, ArePairs, AreRanged, HasProcess, IsBounded, IsDecision, IsIn, IsRanged, IsReal, IsSigned}
pub use Rattle.restored_left.specs.Members.{IsStateOf, Keeps, ProcessState, SaidBefore, IsPerceivedOf, account, all_signed, claims_of, signed_here}
