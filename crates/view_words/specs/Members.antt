-- The members of a view, of the words of its line.
use Rattle.std.specs.Prelude.{ℕ, ◌&&◌, nat_le, if◌then◌else◌, List, [], length, Option, None}
use Rattle.message_defs.specs.Limits.{most_members}
use Rattle.kit_defs.specs.KitReading.{members_by}

-- the members that the words name: 1 to 16 different processes
abbrev pub members_within : List (List ℕ) → Option (List ℕ)
members_within words = if nat_le 1 (length words) && nat_le (length words) most_members then members_by [] words else None
