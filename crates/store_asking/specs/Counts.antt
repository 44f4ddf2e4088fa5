-- A vote under way, as a place of the input.
use Rattle.std.specs.Prelude.{ℕ, List}
use Rattle.kit_defs.specs.Kits.{Kit}
use Rattle.store_asking.specs.declared.counting.Count.{Count}
use Rattle.store_asking.specs.Places.{VotePlace, vote_place}

abbrev pub place_of : Kit → List (ℕ × List ℕ) → Count → List ℕ → VotePlace
place_of kit keys c ahead = vote_place kit keys c.number c.left c.vote ahead
