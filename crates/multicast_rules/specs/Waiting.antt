-- What waits for an answer.
use Rattle.std.specs.Prelude.{◌≡◌, ℕ, ◌<◌, Bool, not, ◌&&◌, nat_le, length, is_some, Option, Some, None, option_and_then, slice_get}
use Rattle.byte_defs.specs.Choices.{is_some_and}
use Rattle.message_defs.specs.Limits.{most_places}
use Rattle.message_defs.specs.Statements.{Batch, InitAt, EchoAt, OrderAt, PlaceAt}
use Rattle.group_defs.specs.Process.{Pool}
use Rattle.group_defs.specs.Certified.{heard_on, ordered, placed}
use Rattle.pool_laws.specs.Least.{IsLeastBelow}
use Rattle.stmt_codec.specs.Views.{message}
use Rattle.rule_laws.specs.Placing.{fits}
pub use Rattle.own_place.specs.Owns.{IsOwnOf}
use Rattle.own_place.specs.Signed.{Signed, has_slot}

-- the member's Init of this number is heard, and the own Echo of its message is not signed
abbrev pub is_init_waiting : Pool → Signed → ℕ → ℕ → Bool
is_init_waiting h signed sender l = is_some (heard_on h sender (InitAt h.view.number l))
    && not (has_slot signed (EchoAt h.view.number (message sender l)))

-- of the members one of whose Inits waits, the one of least rank, and its least Init that waits
abbrev pub IsFirstWaiting : Pool → Signed → Option (ℕ × ℕ) → Type 0
IsFirstWaiting h signed None = (r m : ℕ) → slice_get h.view.members r ≡ Some m → IsLeastBelow most_places (is_init_waiting h signed m) None
IsFirstWaiting h signed (Some e) = (rank : ℕ) × (slice_get h.view.members rank ≡ Some e.0)
    × IsLeastBelow most_places (is_init_waiting h signed e.0) (Some e.1)
    × ((r m : ℕ) → r < rank → slice_get h.view.members r ≡ Some m → IsLeastBelow most_places (is_init_waiting h signed m) None)

-- the batch that the manager's heard Order gives the place
abbrev pub ordered_at : Pool → ℕ → Option Batch
ordered_at h k = option_and_then (λ manager. option_and_then ordered (heard_on h manager (OrderAt h.view.number k)))
    (slice_get h.view.members 0)

-- the place is at most the placed length, the manager's Order of it is heard, and the own Place is not signed
abbrev pub is_order_waiting : Pool → Signed → ℕ → Bool
is_order_waiting h signed k = nat_le k (length (placed h)) && (is_some (ordered_at h k) && not (has_slot signed (PlaceAt h.view.number k)))

-- the own Place is not signed, and the manager's Order fits there
abbrev pub is_order_open : Pool → Signed → ℕ → Bool
is_order_open h signed k = not (has_slot signed (PlaceAt h.view.number k)) && is_some_and (ordered_at h k) (fits h k)
