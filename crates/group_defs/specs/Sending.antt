-- What is sent, as lists of claims. `p` has signed and not yet settled, `began` is the process as the event began.
-- Names here (* for this crate alone):
--   the list of a Bundle: was_delivered, repeated, newly_signed, message_certificates, beside_order, is_beside, claim_numbers,
--     beside_suggest, same_claim, joined, with_what_goes_beside, bundle
--   the answer to a Want: place_certificates, commits_of, pools_of, answer
--   what goes out: Parcel, frames_of, Sending, others, sends_to, unless_empty
use Rattle.std.specs.Prelude.{ℕ, ◌+◌, Bool, true, false, ◌&&◌, not, nat_lt, ◌==◌, List, [], ◌∷◌, ◌++◌, length, map, drop, filter, flat_map, fold, if◌then◌else◌, Some, None, option_to_list}
use Rattle.std.specs.List.{list_any, range_with_len}
use Rattle.message_defs.specs.Below.{sorted, is_yes, bytes_discrete}
use Rattle.group_defs.specs.Views.{View}
use Rattle.message_defs.specs.Statements.{Batch, Statement, Init, Echo, Order, Place, Keep, Notify, End, Last, Suggest, Ack, EchoAt, PlaceAt, KeepAt, Claim, slot_of, slot_numbers, view_of, same_statement}
use Rattle.group_defs.specs.Process.{Pool, Process, places_in}
use Rattle.group_defs.specs.Certified.{certificate_on, place_at}
use Rattle.group_defs.specs.Due.{same_message}
use Rattle.message_defs.specs.Packing.{pack}
use Rattle.message_defs.specs.Frames as frames

-- ---- the list of a Bundle

-- of a message or a place that was delivered
abbrev pub was_delivered : Process → Statement → Bool
was_delivered began (Init x l payload) = list_any (λ d. same_message d.message (record { sender = began.me; number = l })) began.delivered
was_delivered began (Echo x m payload) = list_any (λ d. same_message d.message m) began.delivered
was_delivered began (Order x k b) = nat_lt k (places_in began.delivered)
was_delivered began (Place x k b) = nat_lt k (places_in began.delivered)
was_delivered began (Keep x k b) = nat_lt k (places_in began.delivered)
was_delivered began _ = false

-- on a Tick, all own claims of the view but those of messages and places that were delivered
abbrev pub repeated : Process → Process → List Claim
repeated began p = filter (λ c. (view_of c.statement == p.pool.view.number) && not (was_delivered began c.statement)) p.signed

-- the claims that were signed in this event
abbrev pub newly_signed : Process → Process → List Claim
newly_signed began p = drop (length began.signed) p.signed

-- the certificates of the messages of a batch, in its order
abbrev pub message_certificates : Pool → Batch → List Claim
message_certificates h b = flat_map (λ m. certificate_on h (EchoAt h.view.number m)) b

-- those of the batch of an Order
abbrev pub beside_order : Process → Pool → Statement → List Claim
beside_order began h (Order x k b) = if nat_lt k (places_in began.delivered) then [] else message_certificates h b
beside_order began h _ = []

-- a Suggest of this cut takes it along
abbrev pub is_beside : ℕ → Statement → Bool
is_beside cut (Notify x u) = true
is_beside cut (End x k) = true
is_beside cut (Last x r ready) = true
is_beside cut (Ack x r v) = true
is_beside cut (Place x k b) = k + 1 == cut
is_beside cut _ = false

-- claims are ordered by kind, slot and signer
abbrev pub claim_numbers : Claim → List ℕ
claim_numbers c = slot_numbers (slot_of c.statement) ++ c.signer ∷ []

-- the heard claims that a Suggest takes along, by kind, slot and signer
abbrev pub beside_suggest : Pool → Statement → List Claim
beside_suggest h (Suggest x r v) = sorted claim_numbers (filter (λ c. is_beside v.cut c.statement) h.heard)
beside_suggest h _ = []

-- signer, statement and signature are equal
abbrev pub same_claim : Claim → Claim → Bool
same_claim c d = (c.signer == d.signer) && same_statement c.statement d.statement && is_yes (bytes_discrete c.signature d.signature)

-- after the others, where it is not among them
abbrev pub joined : List Claim → Claim → List Claim
joined cs c = if list_any (same_claim c) cs then cs else cs ++ c ∷ []

-- the claims, and after them what their Orders and Suggests take along, each once
abbrev pub with_what_goes_beside : Process → Pool → List Claim → List Claim
with_what_goes_beside began h base =
    let statements : List Statement = map (λ c. c.statement) base in
    fold joined base (flat_map (beside_order began h) statements ++ flat_map (beside_suggest h) statements)

-- what goes to the other members of the view: on a Tick the own claims again, else those that were signed now, with what goes beside them
abbrev pub bundle : Bool → Process → Process → List Claim
bundle tick began p = with_what_goes_beside began p.pool (if tick then repeated began p else newly_signed began p)

-- ---- the answer to a Want

-- the certificates of a place: its own, those of its messages where they are named, and the Keep
abbrev pub place_certificates : Pool → ℕ → List Claim
place_certificates h k =
    certificate_on h (PlaceAt h.view.number k)
    ++ elim (place_at h k) [ None ↦ [] | Some b ↦ message_certificates h b ]
    ++ certificate_on h (KeepAt h.view.number k)

-- the commit certificate of the view of this number, where the process left it
abbrev pub commits_of : Process → ℕ → List Claim
commits_of p x = flat_map (λ v. v.commit) (filter (λ v. v.view.number == x) p.left)

-- the pool of the view, where it is the current or the previous one
abbrev pub pools_of : Process → ℕ → List Pool
pools_of p x = filter (λ h. h.view.number == x) (p.pool ∷ option_to_list p.previous)

-- `p` has settled
abbrev pub answer : Process → ℕ → ℕ → List Claim
answer p x k = commits_of p x ++ flat_map (λ h. flat_map (place_certificates h) (range_with_len k 8)) (pools_of p x)

-- ---- what goes out

-- how a frame is to be packed
pub data Parcel : Type 0 where
  Bundle : (claims : List Claim) → Parcel
  Proof : (claims : List Claim) → Parcel
  Want : (view place : ℕ) → Parcel

-- the frames
abbrev pub frames_of : Parcel → List (List ℕ)
frames_of (Bundle claims) = map (λ gs. frames.frame_bytes (frames.Bundle gs)) (pack claims)
frames_of (Proof claims) = map (λ gs. frames.frame_bytes (frames.Proof gs)) (pack claims)
frames_of (Want x k) = frames.frame_bytes (frames.Want x k) ∷ []

-- what is packed into frames, and whom they go to
pub record Sending : Type 0 where
  pub to : List ℕ
  pub parcel : Parcel

-- the other members, rising
abbrev pub others : Process → View → List ℕ
others p v = sorted (λ m. m ∷ []) (filter (λ m. not (m == p.me)) v.members)

-- none to nobody
abbrev pub sends_to : List ℕ → Parcel → List Sending
sends_to [] parcel = []
sends_to (p ∷ ps) parcel = record { to = p ∷ ps; parcel = parcel } ∷ []

-- none of no claims
abbrev pub unless_empty : List Claim → (List Claim → Parcel) → List ℕ → List Sending
unless_empty [] parcel to = []
unless_empty (c ∷ cs) parcel to = sends_to to (parcel (c ∷ cs))
