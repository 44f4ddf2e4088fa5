-- What a process has perceived, as its set says: in the words of the crate below, passed on.
pub use Rattle.ending_rules.specs.Perceiving.{IsPerceivedOf}
-- and whose own place it is
pub use Rattle.own_place.specs.Owns.{IsOwnOf}
