-- What a server writes of its process during a turn, and how it takes the store over from states that it is offered.
-- Names here (* for this crate alone):
--   replies: OpensPlaces*, TurnReplies*, TurnOpensPlaces*, RepliesStay*, GivesStay*
--   offers: Offered*, with_offer*, Collects*, TakesOver*, FollowsOffers*, OfferFollows*
use Rattle.std.specs.Prelude.{◌≡◌, ◌≢◌, ℕ, ◌<◌, ◌≤◌, ◌||◌, not, if◌then◌else◌, List, [], ◌∷◌, ◌++◌, length, Option, None, is_some, Contains, Ok, Err}
use Rattle.group_defs.specs.Views.{is_member}
use Rattle.group_defs.specs.Process.{Setting, Delivered, Process, places_in}
use Rattle.group_defs.specs.Accounts.{account_of}
use Rattle.group_defs.specs.Events.{Note, Delivers, Turn, after, outcome, run}
use Rattle.store_defs.specs.Records.{Reply, StateRecord, state_record_of}
use Rattle.store_defs.specs.Votes.{Valid}
use Rattle.store_defs.specs.Transfers.{new_transfer, transfer_after}
use Rattle.store_defs.specs.Holding.{Beginning, Gives, Replies, payloads_of}
use Rattle.store_defs.specs.Serving.{Place, Server, Ready, Signed, ReportedReply, after_notes, after_offer, handed_key, offer_word, position_at, reported_of}
use Rattle.store_defs.specs.Laws.{Follows, Services, TookIn}

-- ---- replies

-- the next message of a place that the process has not delivered yet gets position 0
abbrev pub OpensPlaces : Process → Server → Type 0
OpensPlaces p s = (k : ℕ) → places_in p.delivered ≤ k → position_at s.last k ≡ 0

-- Each reply that a server writes during a turn is a reply of its process as the process is after the turn. It is signed with the leaf of
-- this number: how many messages the server was given before.
abbrev pub TurnReplies : Type 0
TurnReplies = (setting : Setting) (p : Process) (t : Turn) (q : Place) (b : Beginning) (s : Server) (front rest : List Note) (x : ℕ)
    (d : Delivered) (r : Reply) → p.pool.view.number ≡ length p.left → q.me ≡ p.me → Follows p b s → OpensPlaces p s
    → (outcome setting p t).notes ≡ front ++ Delivers x d ∷ rest
    → reported_of q (after_notes q s front) (Delivers x d) ≡ ReportedReply (Signed r)
    → Replies (account_of (after setting p t)) b (after_notes q s front).delivered r

-- Where the places that come next open at position 0, they still do after a turn.
abbrev pub TurnOpensPlaces : Type 0
TurnOpensPlaces = (setting : Setting) (p : Process) (t : Turn) (q : Place) (s : Server) → OpensPlaces p s
    → OpensPlaces (after setting p t) (after_notes q s (outcome setting p t).notes)

-- a reply of a process is still its reply after more events, whichever view it was in
abbrev pub RepliesStay : Type 0
RepliesStay = (setting : Setting) (p : Process) (ts : List Turn) (b : Beginning) (leaf : ℕ) (r : Reply)
    → Replies (account_of p) b leaf r → Replies (account_of (run setting p ts)) b leaf r

-- and a state that it gave is still a state that it gives
abbrev pub GivesStay : Type 0
GivesStay = (setting : Setting) (p : Process) (ts : List Turn) (b : Beginning) (r : StateRecord)
    → Gives (account_of p) b r → Gives (account_of (run setting p ts)) b r

-- ---- offers

-- a record that was offered, with the key of its signer, if the server was handed one
abbrev pub Offered : Type 0
Offered = Option (List ℕ) × StateRecord

-- The records that were offered, after these bytes are offered. They count where they are a record, the server has no store, and its
-- process is a member of its view; no other bytes reach the transfer.
unfoldable pub with_offer : Place → Server → List ℕ → List Offered → List Offered
with_offer q s bytes offered = elim (state_record_of bytes) [
  | Err fault ↦ offered
  | Ok r ↦ if is_some s.store || not (is_member s.view q.me) then offered else offered ++ (handed_key s r.signer, r) ∷ []
]

-- these records, offered since the view began, made the transfer what it is; while the server has no store, no state is ready
pub record Collects (valid : Valid) (group : List ℕ) (offered : List Offered) (s : Server) : Type 0 where
  pub transfer : s.transfer ≡ transfer_after valid group (new_transfer s.view) offered
  pub waiting : s.store ≡ None → s.transfer.state ≡ None

-- the process took a state in its view, which is not the first, and the server follows the process from that state on
pub record TakesOver (sv : Services) (p : Process) (s : Server) : Type 0 where
  pub beginning : Beginning
  pub view : beginning.view ≡ p.pool.view.number
  pub later : 0 < p.pool.view.number
  pub took : TookIn sv p.me beginning
  pub follows : Follows p beginning s

-- After an offer there is one more record, or there are the same. Where the answer is `ready`, the process took the state that became
-- ready, and the server follows the process from that state on; else it follows as before.
pub record FollowsOffers (sv : Services) (p : Process) (q : Place) (b : Beginning) (s : Server) (offered : List Offered) (bytes : List ℕ)
    : Type 0 where
  pub collects : Collects sv.family.setting.valid q.group (with_offer q s bytes offered)
      (after_offer sv.family.setting.valid q (payloads_of p.delivered) s bytes)
  pub ready : offer_word sv.family.setting.valid q s bytes ≡ Ready
      → TakesOver sv p (after_offer sv.family.setting.valid q (payloads_of p.delivered) s bytes)
  pub other : offer_word sv.family.setting.valid q s bytes ≢ Ready
      → Follows p b (after_offer sv.family.setting.valid q (payloads_of p.delivered) s bytes)

-- A server that follows its process still does after an offer, if what was offered in the view is one of the process's joinings.
abbrev pub OfferFollows : Type 0
OfferFollows = (sv : Services) (p : Process) (q : Place) (b : Beginning) (s : Server) (offered : List Offered) (bytes : List ℕ)
    → p.pool.view.number ≡ length p.left → q.me ≡ p.me → q.group ≡ sv.family.setting.group → Follows p b s
    → Collects sv.family.setting.valid q.group offered s
    → Contains (sv.joinings p.me) (record { view = p.pool.view; offered = with_offer q s bytes offered })
    → FollowsOffers sv p q b s offered bytes
