-- Whether a message of an ordered batch follows.
use Rattle.std.specs.Prelude.{◌≡◌, ℕ, List, Option, Some, None, Bool, IsFalse, IsTrue, is_some, ◌==◌, ◌&&◌, slice_index_or}
use Rattle.message_defs.specs.Statements.{Message}
use Rattle.group_defs.specs.Views.{rank_of}
use Rattle.group_defs.specs.Process.{Pool}
use Rattle.group_defs.specs.Certified.{payload_at}

-- the message is the next of this rank by the counts, and certified
abbrev pub is_next_of : Pool → List ℕ → Message → ℕ → Bool
is_next_of h counts m r = (m.number == slice_index_or counts r 0) && is_some (payload_at h m)

-- the rank of the message's sender, where the message is its next; none where it is not, or the sender is no member
abbrev pub IsFollower : Pool → List ℕ → Message → Option ℕ → Type 0
IsFollower h counts m None = (r : ℕ) → rank_of h.view m.sender ≡ Some r → IsFalse (is_next_of h counts m r)
IsFollower h counts m (Some r) = (rank_of h.view m.sender ≡ Some r) × IsTrue (is_next_of h counts m r)
