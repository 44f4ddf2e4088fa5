-- What the heard claims show.
-- Names here (* for this crate alone):
--   claim_on, heard_on, number_of_members, says, backers, is_certified, is_notified, certified_on, payload_at, place_at, value_at,
--     certificate, certificate_on
--   places: placed_from, placed, place_kept, fixed_length, named, messages
--   updates and ranks: update_said, notified_updates, removed_rank
--   the own statements of the view: own, own_on, is_signed, is_ended, ordered, own_orders, rank_said, own_rank, readied, higher,
--     own_ready
use Rattle.std.specs.Prelude.{ℕ, zero, suc, ◌+◌, ◌-◌, Bool, ◌&&◌, nat_lt, nat_le, ◌==◌, min, max, if◌then◌else◌, List, [], ◌∷◌, length, map, filter, find, filter_map, flat_map, count_by, fold, take, take_while, Option, Some, None, is_some, option_map, option_and_then}
use Rattle.message_defs.specs.Below.{is_some_and, sorted}
use Rattle.message_defs.specs.Limits.{most_places}
use Rattle.message_defs.specs.Updates.{Update, Remove, Value}
use Rattle.group_defs.specs.Views.{faulty, quorum}
use Rattle.message_defs.specs.Statements.{Message, Batch, Statement, Order, Keep, Notify, Last, Ack, Ready, Slot, EchoAt, PlaceAt, EndAt, Claim, slot_of, view_of, batch_of, payload_of, value_of, same_slot, same_statement}
use Rattle.group_defs.specs.Process.{Pool, Process}

-- the signer's first claim on the slot
abbrev pub claim_on : List Claim → ℕ → Slot → Option Claim
claim_on cs signer slot = find (λ c. (c.signer == signer) && same_slot (slot_of c.statement) slot) cs

-- what the signer's first claim on the slot says
abbrev pub heard_on : Pool → ℕ → Slot → Option Statement
heard_on h signer slot = option_map (λ c. c.statement) (claim_on h.heard signer slot)

-- n: how many members the view has
abbrev pub number_of_members : Pool → ℕ
number_of_members h = length h.view.members

-- the member's heard claim on the statement's slot says the same
abbrev pub says : Pool → Statement → ℕ → Bool
says h st member = is_some_and (heard_on h member (slot_of st)) (same_statement st)

-- the members whose heard claim on the slot says this
abbrev pub backers : Pool → Statement → List ℕ
backers h st = filter (says h st) h.view.members

-- a quorum of the members back it
abbrev pub is_certified : Pool → Statement → Bool
is_certified h st = nat_le (quorum (number_of_members h)) (length (backers h st))

-- more than f members notify it, so one of them is correct
abbrev pub is_notified : Pool → Update → Bool
is_notified h u = nat_lt (faulty (number_of_members h)) (length (backers h (Notify h.view.number u)))

-- the statement of the slot that is certified
abbrev pub certified_on : Pool → Slot → Option Statement
certified_on h slot = find (is_certified h) (filter (λ st. same_slot (slot_of st) slot) (map (λ c. c.statement) h.heard))

-- the certified payload of a message
abbrev pub payload_at : Pool → Message → Option (List ℕ)
payload_at h m = option_and_then payload_of (certified_on h (EchoAt h.view.number m))

-- the batch of place k, where that is certified
abbrev pub place_at : Pool → ℕ → Option Batch
place_at h k = option_and_then batch_of (certified_on h (PlaceAt h.view.number k))

-- the certified value of a slot, as of a rank's Acks or Readies
abbrev pub value_at : Pool → Slot → Option Value
value_at h slot = option_and_then value_of (certified_on h slot)

-- the claims of the first Q backers by process number; none where that is not certified
abbrev pub certificate : Pool → Statement → List Claim
certificate h st = if is_certified h st
    then filter_map (λ m. claim_on h.heard m (slot_of st)) (take (quorum (number_of_members h)) (sorted (λ m. m ∷ []) (backers h st)))
    else []

-- the certificate of what is certified on the slot
abbrev pub certificate_on : Pool → Slot → List Claim
certificate_on h slot = elim (certified_on h slot) [ None ↦ [] | Some st ↦ certificate h st ]

-- ---- places

-- at most `more` batches, of the places from k on, up to the first that is not certified
abbrev pub placed_from : Pool → ℕ → ℕ → List Batch
placed_from h zero k = []
placed_from h (suc more) k = elim (place_at h k) [ None ↦ [] | Some b ↦ b ∷ placed_from h more (k + 1) ]

-- the batches of the places 0, 1, 2 and so on; its length is the placed length
unfoldable pub placed : Pool → List Batch
placed h = placed_from h most_places 0

-- the place of a Keep that is certified
abbrev pub place_kept : Pool → Statement → Option ℕ
place_kept h (Keep x k b) = if is_certified h (Keep x k b) then Some k else None
place_kept h _ = None

-- the greatest kept place + 1, or 0
abbrev pub fixed_length : Pool → ℕ
fixed_length h = fold (λ most k. max most (k + 1)) 0 (filter_map (λ c. place_kept h c.statement) h.heard)

-- how many of these messages are the sender's
abbrev pub named : ℕ → List Message → ℕ
named sender ms = count_by (λ m. m.sender == sender) ms

-- the messages of these batches, in order
abbrev pub messages : List Batch → List Message
messages bs = flat_map (λ b. b) bs

-- ---- updates and ranks

-- the update that a Notify names
abbrev pub update_said : Statement → Option Update
update_said (Notify x u) = Some u
update_said _ = None

-- the updates that more than f members notify
abbrev pub notified_updates : Pool → List Update
notified_updates h = filter (is_notified h) (filter_map (λ c. update_said c.statement) h.heard)

-- the greatest rank such that each member of a rank below it is to be removed
abbrev pub removed_rank : Pool → ℕ
removed_rank h = min (number_of_members h - 1) (length (take_while (λ m. is_notified h (Remove m)) h.view.members))

-- ---- the own statements of the view

-- what the process signed in the current view
abbrev pub own : Process → List Statement
own p = filter (λ st. view_of st == p.pool.view.number) (map (λ c. c.statement) p.signed)

-- what the process signed on this slot
abbrev pub own_on : Process → Slot → Option Statement
own_on p slot = option_map (λ c. c.statement) (claim_on p.signed p.me slot)

-- the process has signed this slot
abbrev pub is_signed : Process → Slot → Bool
is_signed p slot = is_some (own_on p slot)

-- the process has signed the End of the current view
abbrev pub is_ended : Process → Bool
is_ended p = is_signed p (EndAt p.pool.view.number)

-- the batch that an Order gives a place
abbrev pub ordered : Statement → Option Batch
ordered (Order x k b) = Some b
ordered _ = None

-- the batches of the own Orders of the current view, in order of signing
abbrev pub own_orders : Process → List Batch
own_orders p = filter_map ordered (own p)

-- the rank of a Last, an Ack or a Ready
abbrev pub rank_said : Statement → ℕ
rank_said (Last x r ready) = r
rank_said (Ack x r v) = r
rank_said (Ready x r v) = r
rank_said _ = 0

-- the greatest rank of the own Last, Ack and Ready statements of the view, 0 where there is none
abbrev pub own_rank : Process → ℕ
own_rank p = fold (λ most st. max most (rank_said st)) 0 (own p)

-- the rank and the value of a Ready
abbrev pub readied : Statement → Option (ℕ × Value)
readied (Ready x r v) = Some (r, v)
readied _ = None

-- the one of greater rank
abbrev pub higher : Option (ℕ × Value) → ℕ × Value → Option (ℕ × Value)
higher None b = Some b
higher (Some a) b = if nat_lt a.0 b.0 then Some b else Some a

-- the own Ready of greatest rank
abbrev pub own_ready : Process → Option (ℕ × Value)
own_ready p = fold higher None (filter_map readied (own p))
