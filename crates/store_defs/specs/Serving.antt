-- What a process that serves the store keeps, how each note of a turn changes it, and what it writes.
-- Names here (* for this crate alone):
--   Place, Server
--   the start: held, server_of
--   replies: position_at, unsigned_reply, signed_reply, ReplyWord, reply_to, stored*, after_message
--   views: after_view
--   notes: after_note, after_notes, Reported, reported_of
--   states: unsigned_state, signed_state, StateWord, state_given, OfferWord, handed_key, word_of_taken, taken_by, offer_word,
--     store_from, with_ready*, after_taken, after_offer, with_key
use Rattle.std.specs.Prelude.{ℕ, ◌+◌, ◌-◌, ◌==◌, not, nat_le, if◌then◌else◌, Bool, ◌||◌, List, [], ◌∷◌, ◌++◌, length, codes, find, Option, Some, None, is_some, option_map, Ok, Err}
use Rattle.std.specs.Option.{unwrap_or, option_map_or}
use Rattle.std.specs.Fmt.{decimal}
use Rattle.hex.specs.Hex.{encode_lower}
use Rattle.byte_defs.specs.Choices.{first_that_holds}
use Rattle.text_defs.specs.Words.{line_text}
use Rattle.group_defs.specs.Views.{View, is_member}
use Rattle.group_defs.specs.Process.{Delivered, Process}
use Rattle.group_defs.specs.Events.{Note, Delivers, Installs, Liar, Spent, Halts}
use Rattle.group_defs.specs.Accounts.{Account, account_of, delivered_in}
use Rattle.store_defs.specs.declared.Taken.{Taken}
use Rattle.store_defs.specs.declared.Taken.TheVariants as taken
use Rattle.store_defs.specs.Stores.{Store, applied, answer_bytes, store_after, store_bytes, store_of}
use Rattle.store_defs.specs.Records.{Reply, StateRecord, reply_body, reply_bytes, state_body, state_bytes, state_record_of}
use Rattle.store_defs.specs.Keys.{Signs}
use Rattle.store_defs.specs.Votes.{Valid}
use Rattle.store_defs.specs.Transfers.{Transfer, new_transfer, offer, with_record}
use Rattle.store_defs.specs.Holding.{genesis, holds, payloads_of, store_at, delivered_below}

-- what never changes of it
pub record Place : Type 0 where
  pub me : ℕ
  pub group : List ℕ
  pub replies : Signs
  pub states : Signs

-- what it keeps
pub record Server : Type 0 where
  pub view : View
  -- how many messages it delivered in all views, also before this run
  pub delivered : ℕ
  -- the place of the message that it delivered last in this run and view, and its position there
  pub last : Option (ℕ × ℕ)
  -- the store as it is, where it holds it
  pub store : Option Store
  -- what it gives: the store at the beginning of the view, where it held it when the view began
  pub gives : Option Store
  -- the state keys that it was handed, the last of a process first
  pub keys : List (ℕ × List ℕ)
  pub transfer : Transfer

-- ---- the start

-- of a store, where it is held
abbrev pub held : {A : Type 0} → Bool → A → Option A
held b a = if b then Some a else None

-- as a run begins with a process as its journal left it: it holds the store where it was a member of every view
unfoldable pub server_of : Process → Server
server_of p =
    let a = account_of p in
    let x = p.pool.view.number in
    let has = holds a genesis x in
    record {
      view = p.pool.view;
      delivered = delivered_below a x + length p.delivered;
      last = None;
      store = held has (store_after (store_at a genesis x) (payloads_of p.delivered));
      gives = held has (store_at a genesis x);
      keys = [];
      transfer = new_transfer p.pool.view;
    }

-- ---- replies

-- the position of a message at its place: one more than the last message's, where that was of the same place, else the first
abbrev pub position_at : Option (ℕ × ℕ) → ℕ → ℕ
position_at last place = option_map_or (λ l. if l.0 == place then l.1 + 1 else 0) last 0

-- the reply without a signature
abbrev pub unsigned_reply : ℕ → ℕ → ℕ → Delivered → List ℕ → Reply
unsigned_reply me view position d answer = record {
  signer = me;
  view = view;
  place = d.place;
  position = position;
  payload = d.payload;
  answer = answer;
  signature = [];
}

-- the reply, signed with the leaf of this number
abbrev pub signed_reply : Place → ℕ → Reply → Reply
signed_reply q leaf r = record r { signature = q.replies.signature leaf (reply_body q.group r) }

-- what is written after `reply P`
pub data ReplyWord : Type 0 where
  Signed : (reply : Reply) → ReplyWord
  NoLeaf : ReplyWord
  NoStore : ReplyWord

-- no reply without the store, nor without a leaf
unfoldable pub reply_to : Place → Server → ℕ → Delivered → ReplyWord
reply_to q s view d = elim s.store [
  | None ↦ NoStore
  | Some store ↦
      if nat_le q.replies.total s.delivered then NoLeaf
      else Signed (signed_reply q s.delivered
      (unsigned_reply q.me view (position_at s.last d.place) d (answer_bytes (applied store d.payload).0)))
]

-- the store after the message, where it is held
abbrev pub stored : Server → Delivered → Option Store
stored s d = option_map (λ store. (applied store d.payload).1) s.store

-- after a message that it delivers
abbrev pub after_message : Server → Delivered → Server
after_message s d = record s {
  delivered = s.delivered + 1;
  last = Some (d.place, position_at s.last d.place);
  store = stored s d;
}

-- ---- views

-- after a view that it installs: it still holds the store where it is a member
abbrev pub after_view : Place → Server → View → Server
after_view q s v =
    let kept = if is_member v q.me then s.store else None in
    record s { view = v; last = None; store = kept; gives = kept; transfer = new_transfer v }

-- ---- notes

-- a note of a turn changes it so
unfoldable pub after_note : Place → Server → Note → Server
after_note q s (Delivers view d) = after_message s d
after_note q s (Installs v) = after_view q s v
after_note q s (Liar p) = s
after_note q s Spent = s
after_note q s (Halts delivered cut) = s

-- after these notes, one after the other
unfoldable pub after_notes : Place → Server → List Note → Server
after_notes q s [] = s
after_notes q s (note ∷ notes) = after_notes q (after_note q s note) notes

-- what it writes after a note
pub data Reported : Type 0 where
  Nothing : Reported
  ReportedReply : (word : ReplyWord) → Reported

unfoldable pub reported_of : Place → Server → Note → Reported
reported_of q s (Delivers view d) = ReportedReply (reply_to q s view d)
reported_of q s (Installs v) = Nothing
reported_of q s (Liar p) = Nothing
reported_of q s Spent = Nothing
reported_of q s (Halts delivered cut) = Nothing

-- ---- states

-- the state of its view, unsigned
abbrev pub unsigned_state : ℕ → ℕ → Store → StateRecord
unsigned_state me view store = record { signer = me; view = view; state = store_bytes store; signature = [] }

-- signed with the leaf whose number is the view's
abbrev pub signed_state : Place → StateRecord → StateRecord
signed_state q r = record r { signature = q.states.signature r.view (state_body q.group r) }

-- what is written after `state P` of a `give`
pub data StateWord : Type 0 where
  Given : (given : StateRecord) → StateWord
  NoStateLeaf : StateWord
  NoState : StateWord

unfoldable pub state_given : Place → Server → StateWord
state_given q s = elim s.gives [
  | None ↦ NoState
  | Some store ↦
      if nat_le q.states.total s.view.number then NoStateLeaf
      else Given (signed_state q (unsigned_state q.me s.view.number store))
]

-- what is written after `state P` of a state that is offered, which also says what came of it
pub data OfferWord : Type 0 where
  Grammar : OfferWord
  Held : OfferWord
  OtherView : OfferWord
  Stranger : OfferWord
  Unsigned : OfferWord
  Known : OfferWord
  Ready : OfferWord
  TakenSoFar : (givers : ℕ) → OfferWord

-- the key of a process, where it was handed one
abbrev pub handed_key : Server → ℕ → Option (List ℕ)
handed_key s q = option_map (λ k. k.1) (find (λ k. k.0 == q) s.keys)

-- of an answer of the transfer
abbrev pub word_of_taken : Taken → OfferWord
word_of_taken taken.OtherView = OtherView
word_of_taken taken.Stranger = Stranger
word_of_taken taken.Unsigned = Unsigned
word_of_taken taken.Known = Known
word_of_taken taken.Ready = Ready
word_of_taken (taken.Counted n) = TakenSoFar n

-- what the transfer makes of it
abbrev pub taken_by : Valid → Place → Server → StateRecord → Taken
taken_by valid q s r = offer valid q.group (handed_key s r.signer) s.transfer r

-- the first that holds: no record; the process holds the store; another view, or one that it is no member of; and as the transfer says
unfoldable pub offer_word : Valid → Place → Server → List ℕ → OfferWord
offer_word valid q s bytes = elim (state_record_of bytes) [
  | Err fault ↦ Grammar
  | Ok r ↦ unwrap_or (first_that_holds (
      (is_some s.store, Held)
      ∷ (not (is_member s.view q.me), OtherView)
      ∷ [])) (word_of_taken (taken_by valid q s r))
]

-- the store that a state spells, followed by what the process itself delivered in the view
abbrev pub store_from : List ℕ → List (List ℕ) → Option Store
store_from state here = elim (store_of state) [ Ok store ↦ Some (store_after store here) | Err fault ↦ None ]

-- with the state that is ready
abbrev pub with_ready : List (List ℕ) → Server → Server
with_ready here s = record s { store = elim s.transfer.state [ None ↦ None | Some state ↦ store_from state here ] }

-- after a state that is taken or ready
abbrev pub after_taken : List (List ℕ) → Server → StateRecord → Taken → Server
after_taken here s r taken.Ready = with_ready here (record s { transfer = with_record s.transfer r taken.Ready })
after_taken here s r t = record s { transfer = with_record s.transfer r t }

-- after a state that is offered, where the process delivered these payloads in its view so far
unfoldable pub after_offer : Valid → Place → List (List ℕ) → Server → List ℕ → Server
after_offer valid q here s bytes = elim (state_record_of bytes) [
  | Err fault ↦ s
  | Ok r ↦ if is_some s.store || not (is_member s.view q.me) then s else after_taken here s r (taken_by valid q s r)
]

-- with the state key of a process, before those that it was handed earlier
abbrev pub with_key : ℕ → List ℕ → Server → Server
with_key p key s = record s { keys = (p, key) ∷ s.keys }
