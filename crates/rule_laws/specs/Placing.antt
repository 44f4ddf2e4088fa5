-- Places: the least Order, the least Place and the least Keep that are due.
-- Names here (* for this crate alone):
--   Order: may_order, OrderIsLeast*, counts_in, message_by, is_next, NextByCounts*, CountsOneMore*, IsBatchSoFar, BatchBegins*,
--     BatchGoesOn*, BatchIsFull*
--   Place: managers_order*, fits, is_place_open, PlaceIsLeast*, FollowsSoFar, FollowsBegins*, FollowsOn*, FollowsWhole*
--   Keep: is_keep_open, KeepIsLeast*
use Rattle.std.specs.Prelude.{◌≡◌, ℕ, suc, ◌+◌, Bool, IsTrue, IsFalse, ◌&&◌, not, nat_lt, nat_le, if◌then◌else◌, List, [], ◌∷◌, ◌++◌, length, map, take, drop, slice_set, Option, Some, None, is_some, option_map, option_and_then, slice_get, slice_index_or, ◌==◌}
use Rattle.group_defs.specs.Below.{is_some_and, last_number, most_places, Message, Batch, Order, Place, Keep, OrderAt, PlaceAt, KeepAt}
use Rattle.group_defs.specs.Views.{View, IsView, is_member}
use Rattle.group_defs.specs.Process.{Orders, Places, Keeps, Setting, Pool, Process, places_in}
use Rattle.group_defs.specs.Certified.{heard_on, payload_at, placed, named, messages, is_signed, is_ended, ordered, own_orders, number_of_members}
use Rattle.group_defs.specs.Due.{window, is_of_rank, next_message, next_messages, next_batch, follows, are_certified, is_batch, least_due}
use Rattle.rule_laws.specs.Heard.{IsPool}
use Rattle.pool_laws.specs.Least.{IsLeastBelow}

-- ---- Order

-- the manager may order the next place: no End is signed, and the place is in the window, within the numbers, and not signed
abbrev pub may_order : Process → Bool
may_order p =
    let k = length (own_orders p) in
    is_of_rank p p.me 0 && not (is_ended p)
    && nat_lt k (places_in p.delivered + window) && nat_le k last_number && not (is_signed p (OrderAt p.pool.view.number k))

-- it orders the next batch there, where that has a message
abbrev pub OrderIsLeast : Type 0
OrderIsLeast = (s : Setting) (p : Process)
    → least_due s p Orders ≡ (if may_order p && nat_lt 0 (length (next_batch p))
    then Some (Order p.pool.view.number (length (own_orders p)) (next_batch p)) else None)

-- of each member, in rank order, how many of these messages are its own
abbrev pub counts_in : View → List Message → List ℕ
counts_in v ms = map (λ m. named m ms) v.members

-- the next message of the member of this rank, by these counts: its number is the count
abbrev pub message_by : View → List ℕ → ℕ → Message
message_by v counts r = record { sender = slice_index_or v.members r 0; number = slice_index_or counts r 0 }

-- that message is certified
abbrev pub is_next : Pool → List ℕ → ℕ → Bool
is_next h counts r = is_some (payload_at h (message_by h.view counts r))

-- the next message is that of the least rank whose next message is certified
abbrev pub NextByCounts : Type 0
NextByCounts = (h : Pool) (before : List Message) (o : Option ℕ)
    → IsLeastBelow (number_of_members h) (is_next h (counts_in h.view before)) o
    → next_message h before ≡ option_map (message_by h.view (counts_in h.view before)) o

-- with one message of the member of rank r more, its count is one more
abbrev pub CountsOneMore : Type 0
CountsOneMore = (v : View) (before : List Message) (m : Message) (r : ℕ) → IsView v → slice_get v.members r ≡ Some m.sender
    → counts_in v (before ++ m ∷ []) ≡ slice_set (counts_in v before) r (slice_index_or (counts_in v before) r 0 + 1)

-- the batch so far, with these counts: at most `more` messages come after it
pub record IsBatchSoFar (h : Pool) (before : List Message) (limit : ℕ) (b : Batch) (cs : List ℕ) (more : ℕ) : Type 0 where
  pub counts : cs ≡ counts_in h.view (before ++ b)
  pub rest : next_messages limit h before ≡ b ++ next_messages more h (before ++ b)

-- it begins with no message
abbrev pub BatchBegins : Type 0
BatchBegins = (h : Pool) (before : List Message) (limit : ℕ) → IsBatchSoFar h before limit [] (counts_in h.view before) limit

-- it goes on with the next message of the least rank whose next message is certified, and ends where there is none
abbrev pub BatchGoesOn : Type 0
BatchGoesOn = (h : Pool) (before : List Message) (limit : ℕ) (b : Batch) (cs : List ℕ) (more : ℕ) (o : Option ℕ) → IsView h.view
    → IsBatchSoFar h before limit b cs (suc more) → IsLeastBelow (number_of_members h) (is_next h cs) o
    → (elim o [
      | None ↦ next_messages limit h before ≡ b
      | Some r ↦ IsBatchSoFar h before limit (b ++ message_by h.view cs r ∷ []) (slice_set cs r (slice_index_or cs r 0 + 1)) more
    ])

-- and where no more may come
abbrev pub BatchIsFull : Type 0
BatchIsFull = (h : Pool) (before : List Message) (limit : ℕ) (b : Batch) (cs : List ℕ) → IsBatchSoFar h before limit b cs 0
    → next_messages limit h before ≡ b

-- ---- Place

-- what the manager orders at this place
abbrev pub managers_order : Process → ℕ → Option Batch
managers_order p k = option_and_then (λ manager. option_and_then ordered (heard_on p.pool manager (OrderAt p.pool.view.number k)))
    (slice_get p.pool.view.members 0)

-- the batch may be at this place: those before it are certified, each of its messages is the next of its sender, and certified
abbrev pub fits : Pool → ℕ → Batch → Bool
fits h k b = nat_le k (length (placed h)) && is_batch b && follows (messages (take k (placed h))) b && are_certified h b

-- the Place of this number is not signed, and the manager's Order fits there
abbrev pub is_place_open : Process → ℕ → Bool
is_place_open p k = not (is_signed p (PlaceAt p.pool.view.number k)) && is_some_and (managers_order p k) (fits p.pool k)

-- a member that has not signed its End places the least such
abbrev pub PlaceIsLeast : Type 0
PlaceIsLeast = (s : Setting) (p : Process) (o : Option ℕ) → IsPool p.pool → IsTrue (is_member p.pool.view p.me) → IsFalse (is_ended p)
    → IsLeastBelow most_places (is_place_open p) o
    → least_due s p Places ≡ option_and_then (λ k. option_map (Place p.pool.view.number k) (managers_order p k)) o

-- the first i messages of the batch follow, and these are the counts with them: the batch follows where those after them do
pub record FollowsSoFar (v : View) (before : List Message) (b : Batch) (cs : List ℕ) (i : ℕ) : Type 0 where
  pub counts : cs ≡ counts_in v (before ++ take i b)
  pub rest : follows before b ≡ follows (before ++ take i b) (drop i b)

-- none of them is looked at yet
abbrev pub FollowsBegins : Type 0
FollowsBegins = (v : View) (before : List Message) (b : Batch) → FollowsSoFar v before b (counts_in v before) 0

-- a member's message whose number is its rank's count follows; with another number the batch does not
abbrev pub FollowsOn : Type 0
FollowsOn = (v : View) (before : List Message) (b : Batch) (cs : List ℕ) (i r : ℕ) (m : Message) → IsView v → FollowsSoFar v before b cs i
    → slice_get b i ≡ Some m → slice_get v.members r ≡ Some m.sender
    → (IsTrue (m.number == slice_index_or cs r 0) → FollowsSoFar v before b (slice_set cs r (slice_index_or cs r 0 + 1)) (i + 1))
    × (IsFalse (m.number == slice_index_or cs r 0) → IsFalse (follows before b))

-- all of them follow
abbrev pub FollowsWhole : Type 0
FollowsWhole = (v : View) (before : List Message) (b : Batch) (cs : List ℕ) → FollowsSoFar v before b cs (length b)
    → IsTrue (follows before b)

-- ---- Keep

-- the Keep of this place is not signed
abbrev pub is_keep_open : Process → ℕ → Bool
is_keep_open p k = not (is_signed p (KeepAt p.pool.view.number k))

-- a member that has not signed its End keeps the least place not signed, where that is placed
abbrev pub KeepIsLeast : Type 0
KeepIsLeast = (s : Setting) (p : Process) (o : Option ℕ) → IsTrue (is_member p.pool.view p.me) → IsFalse (is_ended p)
    → IsLeastBelow most_places (is_keep_open p) o
    → least_due s p Keeps ≡ option_and_then (λ k. option_map (Keep p.pool.view.number k) (slice_get (placed p.pool) k)) o
