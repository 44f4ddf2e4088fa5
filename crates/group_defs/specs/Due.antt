-- What is signed: the table, and the least statement of a kind that is due.
-- Names here (* for this crate alone):
--   window, is_of_rank, rank_says, same_message, same_batch, same_value, is_perceived
--   batches: next_of, next_message, next_messages, next_batch, follows, are_certified, is_batch
--   the table: what each kind needs: is_due, may_sign
--   what can be due at all: a statement answers a heard one, or is made of the own data: Answer, echo_of, place_of, ready_of, ack_of,
--     answers, inits, echoes*, orders*, places*, keeps, notifies, end*, readies*, last*, suggests*, acks*, offers
--   the least one: due_numbers, least_due
--   that is the least one: kind_of, EachDueIsOffered, SomeIsLeast, LeastIsDue
use Rattle.std.specs.Prelude.{◌≡◌, ℕ, zero, suc, IsTrue, IsFalse, Contains, ◌+◌, Bool, true, ◌&&◌, not, nat_lt, nat_le, ◌==◌, List, [], ◌∷◌, ◌++◌, length, map, drop, take, filter, filter_map, if◌then◌else◌, Option, Some, None, is_some, option_map, option_and_then, option_to_list, unwrap_or, slice_get}
use Rattle.std.specs.List.{list_any, list_all, enumerate_from}
use native.Mathlib.Decide.{ℕ_discrete}
use Rattle.message_defs.specs.Below.{first_some, is_some_and, least, numbers_below, is_yes, bytes_discrete, pair_discrete}
use Rattle.message_defs.specs.Limits.{last_number, most_messages}
use Rattle.group_defs.specs.Views.{View, is_member, rank_of, is_possible}
use Rattle.message_defs.specs.Updates.{Update, Update-discrete, Value, Value-discrete}
use Rattle.message_defs.specs.Statements.{Message, Message-discrete, Batch, Batch-discrete, Statement, Init, Echo, Order, Place, Keep, Notify, End, Last, Suggest, Ack, Ready, slot_of, slot_numbers, view_of}
use Rattle.group_defs.specs.Process.{Pool, Kind, Inits, Echoes, Orders, Places, Keeps, Notifies, Ends, Readies, Lasts, Suggests, Acks, Setting, Process, keyed, earlier, delivered_from, places_in}
use Rattle.group_defs.specs.Certified.{says, is_certified, payload_at, placed, named, messages, notified_updates, removed_rank, is_signed, is_ended, own_orders, own_rank, own_ready}
use Rattle.group_defs.specs.Values.{same_ready, choose, is_justified}

-- how far beyond what was delivered numbers and places may go
abbrev pub window : ℕ
window = 32

-- the process of this number has this rank in the current view
abbrev pub is_of_rank : Process → ℕ → ℕ → Bool
is_of_rank p m r = is_some_and (rank_of p.pool.view m) (λ rank. rank == r)

-- the member of this rank has said it
abbrev pub rank_says : Process → ℕ → Statement → Bool
rank_says p r st = is_some_and (slice_get p.pool.view.members r) (says p.pool st)

-- the messages are equal
abbrev pub same_message : Message → Message → Bool
same_message a b = is_yes (Message-discrete a b)

-- the batches are equal
abbrev pub same_batch : Batch → Batch → Bool
same_batch a b = is_yes (Batch-discrete a b)

-- the values are equal
abbrev pub same_value : Value → Value → Bool
same_value v w = is_yes (Value-discrete v w)

-- the update was perceived in the view of this number
abbrev pub is_perceived : Process → ℕ × Update → Bool
is_perceived p e = list_any (λ d. is_yes (pair_discrete ℕ_discrete (Update-discrete ℕ_discrete) d e)) p.perceived

-- ---- batches

-- the sender's next message after these, where it is certified
abbrev pub next_of : Pool → List Message → ℕ → Option Message
next_of h before sender =
    let m : Message = record { sender = sender; number = named sender before } in
    if is_some (payload_at h m) then Some m else None

-- of several senders the one of least rank
abbrev pub next_message : Pool → List Message → Option Message
next_message h before = first_some (next_of h before) h.view.members

-- the next messages after these, one after the other, at most this many
unfoldable pub next_messages : ℕ → Pool → List Message → Batch
next_messages zero h before = []
next_messages (suc more) h before = elim (next_message h before) [ None ↦ [] | Some m ↦ m ∷ next_messages more h (before ++ m ∷ []) ]

-- what the process orders next: it counts the messages of its own Orders and those of the batch so far
abbrev pub next_batch : Process → Batch
next_batch p = next_messages p.batch_limit p.pool (messages (own_orders p))

-- each is its sender's next message after these and those before it in the batch
abbrev pub follows : List Message → Batch → Bool
follows before [] = true
follows before (m ∷ ms) = (m.number == named m.sender before) && follows (before ++ m ∷ []) ms

-- each message is certified
abbrev pub are_certified : Pool → Batch → Bool
are_certified h b = list_all (λ m. is_some (payload_at h m)) b

-- a batch has 1 to 16 messages
abbrev pub is_batch : Batch → Bool
is_batch b = nat_lt 0 (length b) && nat_le (length b) most_messages

-- ---- the table: what each kind needs

-- what each kind needs, apart from a member in its view and a slot that is not signed
abbrev pub is_due : Setting → Process → Statement → Bool
is_due s p (Init x l payload) =
    nat_lt l (delivered_from p.me p.delivered + window) && nat_le l last_number
    && is_some_and (slice_get p.accepted (earlier p + l)) (λ accepted. is_yes (bytes_discrete payload accepted))
is_due s p (Echo x m payload) =
    says p.pool (Init x m.number payload) m.sender && not (is_ended p)
is_due s p (Order x k b) =
    is_of_rank p p.me 0 && not (is_ended p)
    && (k == length (own_orders p)) && nat_lt k (places_in p.delivered + window) && nat_le k last_number
    && nat_lt 0 (length b) && same_batch b (next_batch p)
is_due s p (Place x k b) =
    rank_says p 0 (Order x k b) && not (is_ended p)
    && nat_le k (length (placed p.pool)) && is_batch b && follows (messages (take k (placed p.pool))) b && are_certified p.pool b
is_due s p (Keep x k b) =
    is_some_and (slice_get (placed p.pool) k) (same_batch b) && not (is_ended p)
is_due s p (Notify x u) =
    is_perceived p (x, u) && is_possible (keyed s) p.pool.view u
is_due s p (End x k) =
    nat_lt 0 (length (notified_updates p.pool)) && (k == length (placed p.pool))
is_due s p (Last x r ready) =
    (r == removed_rank p.pool) && nat_lt (own_rank p) r && same_ready ready (own_ready p)
is_due s p (Suggest x r v) =
    is_of_rank p p.me r && nat_le (own_rank p) r && is_some_and (choose s p.pool r) (same_value v)
is_due s p (Ack x r v) =
    rank_says p r (Suggest x r v) && nat_le (own_rank p) r && is_justified s p.pool r v
is_due s p (Ready x r v) =
    is_certified p.pool (Ack x r v) && nat_le (own_rank p) r

-- only members sign, in their view, and each slot once
abbrev pub may_sign : Setting → Process → Statement → Bool
may_sign s p st =
    is_member p.pool.view p.me && (view_of st == p.pool.view.number) && not (is_signed p (slot_of st))
    && is_due s p st

-- ---- what can be due at all: a statement answers a heard one, or is made of the own data

-- what a signer's statement asks for
abbrev pub Answer : Type 0
Answer = ℕ → Statement → Option Statement

-- an Init of the signer is answered by the Echo of its message
abbrev pub echo_of : Answer
echo_of signer (Init x l payload) = Some (Echo x (record { sender = signer; number = l }) payload)
echo_of signer _ = None

-- an Order is answered by the Place of the same batch
abbrev pub place_of : Answer
place_of signer (Order x k b) = Some (Place x k b)
place_of signer _ = None

-- an Ack is answered by the Ready of the same value
abbrev pub ready_of : Answer
ready_of signer (Ack x r v) = Some (Ready x r v)
ready_of signer _ = None

-- a Suggest is answered by the Ack of the same value
abbrev pub ack_of : Answer
ack_of signer (Suggest x r v) = Some (Ack x r v)
ack_of signer _ = None

-- what the heard claims ask for
abbrev pub answers : Process → Answer → List Statement
answers p answer = filter_map (λ c. answer c.signer c.statement) p.pool.heard

-- the Inits of the accepted payloads that no earlier view delivered
abbrev pub inits : Setting → Process → List Statement
inits s p = map (λ e. Init p.pool.view.number e.0 e.1) (enumerate_from 0 (drop (earlier p) p.accepted))

-- an Echo for each heard Init
abbrev pub echoes : Setting → Process → List Statement
echoes s p = answers p echo_of

-- the Order of the next place
abbrev pub orders : Setting → Process → List Statement
orders s p = Order p.pool.view.number (length (own_orders p)) (next_batch p) ∷ []

-- a Place for each heard Order
abbrev pub places : Setting → Process → List Statement
places s p = answers p place_of

-- a Keep of each place below the placed length
abbrev pub keeps : Setting → Process → List Statement
keeps s p = map (λ e. Keep p.pool.view.number e.0 e.1) (enumerate_from 0 (placed p.pool))

-- a Notify for each perceived update
abbrev pub notifies : Setting → Process → List Statement
notifies s p = map (λ e. Notify e.0 e.1) p.perceived

-- the End that says the placed length
abbrev pub end : Setting → Process → List Statement
end s p = End p.pool.view.number (length (placed p.pool)) ∷ []

-- a Ready for each heard Ack
abbrev pub readies : Setting → Process → List Statement
readies s p = answers p ready_of

-- the Last after all ranks whose members are to be removed, with the own Ready of greatest rank
abbrev pub last : Setting → Process → List Statement
last s p = Last p.pool.view.number (removed_rank p.pool) (own_ready p) ∷ []

-- the Suggest at the own rank of the value that is chosen there
abbrev pub suggests : Setting → Process → List Statement
suggests s p = option_to_list (option_and_then (λ r. option_map (Suggest p.pool.view.number r) (choose s p.pool r))
    (rank_of p.pool.view p.me))

-- an Ack for each heard Suggest
abbrev pub acks : Setting → Process → List Statement
acks s p = answers p ack_of

-- what can be due of a kind
abbrev pub offers : Kind → Setting → Process → List Statement
offers Inits = inits
offers Echoes = echoes
offers Orders = orders
offers Places = places
offers Keeps = keeps
offers Notifies = notifies
offers Ends = end
offers Readies = readies
offers Lasts = last
offers Suggests = suggests
offers Acks = acks

-- ---- the least one

-- the order of one kind: that of slots, but senders go by rank
abbrev pub due_numbers : View → Statement → List ℕ
due_numbers v (Echo x m payload) = unwrap_or (rank_of v m.sender) 0 ∷ m.number ∷ []
due_numbers v st = slot_numbers (slot_of st)

-- the least statement of a kind that is due
unfoldable pub least_due : Setting → Process → Kind → Option Statement
least_due s p kind = least (due_numbers p.pool.view) (filter (may_sign s p) (offers kind s p))

-- ---- that is the least one

-- the kind of a statement
abbrev pub kind_of : Statement → Kind
kind_of (Init x l payload) = Inits
kind_of (Echo x m payload) = Echoes
kind_of (Order x k b) = Orders
kind_of (Place x k b) = Places
kind_of (Keep x k b) = Keeps
kind_of (Notify x u) = Notifies
kind_of (End x k) = Ends
kind_of (Last x r ready) = Lasts
kind_of (Suggest x r v) = Suggests
kind_of (Ack x r v) = Acks
kind_of (Ready x r v) = Readies

-- nothing else can be due
abbrev pub EachDueIsOffered : Type 0
EachDueIsOffered = (s : Setting) (p : Process) (st : Statement) → IsTrue (may_sign s p st) → Contains (offers (kind_of st) s p) st

-- where something of a kind is due, something is least
abbrev pub SomeIsLeast : Type 0
SomeIsLeast = (s : Setting) (p : Process) (st : Statement) → IsTrue (may_sign s p st) → IsTrue (is_some (least_due s p (kind_of st)))

-- it is due, and none of its kind that is due comes before it
abbrev pub LeastIsDue : Type 0
LeastIsDue = (s : Setting) (p : Process) (st : Statement) → least_due s p (kind_of st) ≡ Some st
    → IsTrue (may_sign s p st) × ((other : Statement) → Contains (offers (kind_of st) s p) other → IsTrue (may_sign s p other)
    → IsFalse (numbers_below (due_numbers p.pool.view other) (due_numbers p.pool.view st)))
