-- What a process keeps of its place in the view, and how long a claim is: in the words of the crates below, passed on.
pub use Rattle.own_place.specs.Claims.{claim_bytes}
pub use Rattle.own_place.specs.declared.own.Own.{Own}
pub use Rattle.own_place.specs.Owns.{HasDelivered}
