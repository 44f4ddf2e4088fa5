-- What holds of the store, its records, its votes and transfers, and of a family whose processes serve it.
-- Names here (* for this crate alone):
--   the map: SetIsFound, SetLeavesOthers, RemovedIsAbsent, RemoveLeavesOthers, StaysStore
--   the grammars: AreBytes, StoreIsRead, StoreIsSpelled, ReplyIsRead, ReplyIsSpelled, StateIsRead, StateIsSpelled
--   votes: vouches, vouchers, accepted_of, AcceptsExactly, VotesExactly
--   transfers: attests, ReadyIsAttested
--   a family whose processes serve: Joining, Services, state_of, TookIn, Begins, MadeReply, MadeState, IsOwnState, ServicePremises,
--     JoinersHoldTheStore
--   answers: IsAnswerOf, OneAnswer, ReplyIsAnswer, IsInstalled, IsOwnReply, AcceptedIsAnswer
--   leaves: OneBodyPerLeaf, OneReplyPerLeaf, OneStatePerLeaf
--   a server and its process: store_now, given_now, Follows, BeginsFollowing, TurnFollows
use Rattle.std.specs.Prelude.{◌≡◌, ◌≢◌, ◌⊎◌, ◌↔◌, ℕ, ◌+◌, ◌<◌, ◌≤◌, ◌==◌, ◌&&◌, ◌||◌, nat_lt, Bool, false, List, [], ◌∷◌, ◌++◌, length, count_by, All, Contains, IsTrue, slice_index, Option, Some, None, Ok, Err}
use Rattle.std.specs.List.{list_any}
use Rattle.byte_defs.specs.Equality.{same_bytes}
use Rattle.byte_defs.specs.Orders.{numbers_below}
use Rattle.group_defs.specs.Views.{View, faulty}
use Rattle.group_defs.specs.Process.{Setting, Delivered, Process, views_of, without_places}
use Rattle.group_defs.specs.Accounts.{Account, account_of, group_of, delivered_in, at_place, IsPrefixOf}
use Rattle.group_defs.specs.Family.{Family, ends, accounts}
use Rattle.group_defs.specs.Events.{Turn, after, outcome}
use Rattle.group_defs.specs.Laws.{Premises}
use Rattle.store_defs.specs.Stores.{Store, value_of, with_pair, without, applied, answer_to, store_after, store_of, store_bytes, IsStore}
use Rattle.store_defs.specs.Records.{Reply, StateRecord, reply_of, reply_bytes, reply_body, IsReply, state_record_of, state_bytes, state_body, IsStateRecord}
use Rattle.store_defs.specs.Votes.{Valid, Content, content_of, content_numbers, same_content, is_asked, new_vote, vote_after, accepted}
use Rattle.store_defs.specs.Votes as votes
use Rattle.store_defs.specs.Transfers.{new_transfer, transfer_after}
use Rattle.store_defs.specs.Transfers as transfers
use Rattle.store_defs.specs.Holding.{Beginning, genesis, delivered_below, holds, payloads_of, store_at, store_below, IsDeliveredHere, Replies, Gives}
use Rattle.store_defs.specs.Serving.{Place, Server, after_notes, held, server_of}

-- ---- the map

-- a key that is set has the value, and every other key what it had
abbrev pub SetIsFound : Type 0
SetIsFound = (s : Store) (key value : List ℕ) → value_of key (with_pair key value s) ≡ Some value

abbrev pub SetLeavesOthers : Type 0
SetLeavesOthers = (s : Store) (key value other : List ℕ) → key ≢ other → value_of other (with_pair key value s) ≡ value_of other s

-- a key that is removed has none, and every other key what it had
abbrev pub RemovedIsAbsent : Type 0
RemovedIsAbsent = (s : Store) (key : List ℕ) → value_of key (without key s) ≡ None

abbrev pub RemoveLeavesOthers : Type 0
RemoveLeavesOthers = (s : Store) (key other : List ℕ) → key ≢ other → value_of other (without key s) ≡ value_of other s

-- a store within its limits stays so, whatever the payload
abbrev pub StaysStore : Type 0
StaysStore = (s : Store) (payload : List ℕ) → IsStore s → IsStore (applied s payload).1

-- ---- the grammars

abbrev pub AreBytes : List ℕ → Type 0
AreBytes bytes = (i : ℕ) → slice_index bytes i < 256

-- a store within its limits is read of its spelling; and what is read is one, and spelled so
abbrev pub StoreIsRead : Type 0
StoreIsRead = (s : Store) → IsStore s → store_of (store_bytes s) ≡ Ok s

abbrev pub StoreIsSpelled : Type 0
StoreIsSpelled = (bytes : List ℕ) (s : Store) → AreBytes bytes → store_of bytes ≡ Ok s → (bytes ≡ store_bytes s) × IsStore s

abbrev pub ReplyIsRead : Type 0
ReplyIsRead = (r : Reply) → IsReply r → reply_of (reply_bytes r) ≡ Ok r

abbrev pub ReplyIsSpelled : Type 0
ReplyIsSpelled = (bytes : List ℕ) (r : Reply) → AreBytes bytes → reply_of bytes ≡ Ok r → (bytes ≡ reply_bytes r) × IsReply r

abbrev pub StateIsRead : Type 0
StateIsRead = (r : StateRecord) → IsStateRecord r → state_record_of (state_bytes r) ≡ Ok r

abbrev pub StateIsSpelled : Type 0
StateIsSpelled = (bytes : List ℕ) (r : StateRecord) → AreBytes bytes → state_record_of bytes ≡ Ok r
    → (bytes ≡ state_bytes r) × IsStateRecord r

-- ---- votes

-- among the replies is a valid one of the member, to this payload in this view, with this content
abbrev pub vouches : Valid → List ℕ → (ℕ → Option (List ℕ)) → View → List ℕ → List Reply → Content → ℕ → Bool
vouches valid group keys view payload rs c m = list_any
    (λ r. (r.signer == m) && (is_asked view payload r && (votes.is_signed valid group (keys m) r && same_content c (content_of r)))) rs

-- how many members vouch for it
abbrev pub vouchers : Valid → List ℕ → (ℕ → Option (List ℕ)) → View → List ℕ → List Reply → Content → ℕ
vouchers valid group keys view payload rs c = count_by (vouches valid group keys view payload rs c) view.members

-- what the client accepts of these replies, in order
abbrev pub accepted_of : Valid → List ℕ → (ℕ → Option (List ℕ)) → View → List ℕ → List Reply → Option Content
accepted_of valid group keys view payload rs = accepted (vote_after valid group keys (new_vote view payload) rs)

-- an answer is accepted exactly where more than f members vouch for some; it is the least of those that more than f members vouch for
pub record AcceptsExactly (valid : Valid) (group : List ℕ) (keys : ℕ → Option (List ℕ)) (view : View) (payload : List ℕ) (rs : List Reply)
    : Type 0 where
  pub none : (accepted_of valid group keys view payload rs ≡ None)
      ↔ ((c : Content) → vouchers valid group keys view payload rs c ≤ faulty (length view.members))
  pub enough : (c : Content) → accepted_of valid group keys view payload rs ≡ Some c
      → faulty (length view.members) < vouchers valid group keys view payload rs c
  pub least : (c d : Content) → accepted_of valid group keys view payload rs ≡ Some c
      → faulty (length view.members) < vouchers valid group keys view payload rs d
      → numbers_below (content_numbers d) (content_numbers c) ≡ false

abbrev pub VotesExactly : Type 0
VotesExactly = (valid : Valid) (group : List ℕ) (keys : ℕ → Option (List ℕ)) (view : View) (payload : List ℕ) (rs : List Reply)
    → AcceptsExactly valid group keys view payload rs

-- ---- transfers

-- among the records is one of the member, of this view and with this state, that is valid under the key beside it
abbrev pub attests : Valid → List ℕ → View → List (Option (List ℕ) × StateRecord) → List ℕ → ℕ → Bool
attests valid group view rs state m = list_any
    (λ r. (r.1.signer == m) && ((r.1.view == view.number) && (transfers.is_signed valid group r.0 r.1 && same_bytes state r.1.state))) rs

-- the state that is ready is one that more than f members attest
abbrev pub ReadyIsAttested : Type 0
ReadyIsAttested = (valid : Valid) (group : List ℕ) (view : View) (rs : List (Option (List ℕ) × StateRecord)) (state : List ℕ)
    → (transfer_after valid group (new_transfer view) rs).state ≡ Some state
    → faulty (length view.members) < count_by (attests valid group view rs state) view.members

-- ---- a family whose processes serve

-- what was offered to a process in a view of its own: records, each with the key that it was handed of the signer
pub record Joining : Type 0 where
  pub view : View
  pub offered : List (Option (List ℕ) × StateRecord)

-- correct processes, and by their numbers what was offered to each in all its runs
pub record Services : Type 0 where
  pub family : Family
  pub joinings : ℕ → List Joining

-- the state that a process takes of what is offered to it
abbrev pub state_of : Services → Joining → Option (List ℕ)
state_of sv j = (transfer_after sv.family.setting.valid sv.family.setting.group (new_transfer j.view) j.offered).state

-- the process took this store at the beginning of its view of this number
pub record TookIn (sv : Services) (p : ℕ) (b : Beginning) : Type 0 where
  pub joining : Joining
  pub offered : Contains (sv.joinings p) joining
  pub view : b.view ≡ joining.view.number
  pub state : List ℕ
  pub ready : state_of sv joining ≡ Some state
  pub store : store_of state ≡ Ok b.store

-- where the process may have the store from
abbrev pub Begins : Services → ℕ → Beginning → Type 0
Begins sv p b = (b ≡ genesis) ⊎ TookIn sv p b

-- The process made the reply with this leaf, in some run.
pub record MadeReply (sv : Services) (p : Process) (leaf : ℕ) (r : Reply) : Type 0 where
  pub beginning : Beginning
  pub from : Begins sv p.me beginning
  pub replies : Replies (account_of p) beginning leaf r

-- The process made the state record, in some run: a state that it took itself it gives from the next view on.
pub record MadeState (sv : Services) (p : Process) (r : StateRecord) : Type 0 where
  pub beginning : Beginning
  pub from : (beginning ≡ genesis) ⊎ (TookIn sv p.me beginning × (beginning.view < r.view))
  pub gives : Gives (account_of p) beginning r

-- a valid record is its signer's own, where that is correct
abbrev pub IsOwnState : Services → Option (List ℕ) × StateRecord → Type 0
IsOwnState sv r = IsTrue (transfers.is_signed sv.family.setting.valid sv.family.setting.group r.0 r.1)
    → All (λ q. q.me ≡ r.1.signer → MadeState sv q r.1) (ends sv.family)

-- The premises of a family; each joining is in a view that its process installed; and what was offered of correct processes is their own.
-- The last says too that the key beside a record of a correct process is that process's state key.
pub record ServicePremises (sv : Services) : Type 0 where
  pub family : Premises sv.family
  pub views : All (λ p. All (λ j. Contains (views_of p) j.view) (sv.joinings p.me)) (ends sv.family)
  pub honest : All (λ p. All (λ j. All (IsOwnState sv) j.offered) (sv.joinings p.me)) (ends sv.family)

-- the state that a correct process takes is the store after the group's whole sequences of the views below its own
abbrev pub JoinersHoldTheStore : Type 0
JoinersHoldTheStore = (sv : Services) → ServicePremises sv
    → All (λ p. (b : Beginning) → Begins sv p.me b → b.store ≡ store_below (group_of (accounts sv.family)) b.view) (ends sv.family)

-- ---- answers

-- The answer of the store to this payload at this place and position of the view of number x: a correct process delivered the payload
-- there, what it delivered up to there is the front of the group's sequence, and the answer is the store's after the sequences of the views below
-- and what comes before it in this one.
pub record IsAnswerOf (accounts : List Account) (x : ℕ) (payload : List ℕ) (c : Content) : Type 0 where
  pub by : Account
  pub correct : Contains accounts by
  pub delivery : IsDeliveredHere (delivered_in by x)
  pub place : c.place ≡ delivery.at.place
  pub position : c.position ≡ length (at_place delivery.at.place delivery.before)
  pub payload_is : payload ≡ delivery.at.payload
  pub front : IsPrefixOf (without_places (delivery.before ++ delivery.at ∷ [])) ((group_of accounts).sequence x)
  pub answer : c.answer ≡ answer_to (store_after (store_below (group_of accounts) x) (payloads_of delivery.before)) payload

-- a place and position of a view have one payload and one answer
abbrev pub OneAnswer : Type 0
OneAnswer = (f : Family) (x : ℕ) (payload other : List ℕ) (c d : Content) → Premises f → IsAnswerOf (accounts f) x payload c
    → IsAnswerOf (accounts f) x other d → c.place ≡ d.place → c.position ≡ d.position → (payload ≡ other) × (c.answer ≡ d.answer)

-- the reply of a correct process is the answer of the store
abbrev pub ReplyIsAnswer : Type 0
ReplyIsAnswer = (sv : Services) → ServicePremises sv
    → All (λ p. (leaf : ℕ) (r : Reply) → MadeReply sv p leaf r → IsAnswerOf (accounts sv.family) r.view r.payload (content_of r))
    (ends sv.family)

-- the view is one that a correct process installed
abbrev pub IsInstalled : Family → View → Type 0
IsInstalled f v = (p : Process) × Contains (ends f) p × Contains (views_of p) v

-- a valid reply is its signer's own, where that is correct; so the keys of correct processes are their reply keys
abbrev pub IsOwnReply : Services → (ℕ → Option (List ℕ)) → Reply → Type 0
IsOwnReply sv keys r = IsTrue (votes.is_signed sv.family.setting.valid sv.family.setting.group (keys r.signer) r)
    → All (λ q. q.me ≡ r.signer → (leaf : ℕ) × MadeReply sv q leaf r) (ends sv.family)

-- what a client accepts is the store's answer to its payload, at a place of the group's one sequence
abbrev pub AcceptedIsAnswer : Type 0
AcceptedIsAnswer = (sv : Services) (keys : ℕ → Option (List ℕ)) (v : View) (payload : List ℕ) (rs : List Reply) (c : Content)
    → ServicePremises sv → IsInstalled sv.family v → All (IsOwnReply sv keys) rs
    → accepted_of sv.family.setting.valid sv.family.setting.group keys v payload rs ≡ Some c
    → IsAnswerOf (accounts sv.family) v.number payload c

-- ---- leaves

-- a process that has the store from one beginning signs one body with a leaf, in all its runs and whatever it was handed
abbrev pub OneBodyPerLeaf : Type 0
OneBodyPerLeaf = (group : List ℕ) (a : Account) (b : Beginning) (leaf : ℕ) (r s : Reply) → Replies a b leaf r → Replies a b leaf s
    → reply_body group r ≡ reply_body group s

-- and so does each correct process of a family that serves, whatever states it took in which run
abbrev pub OneReplyPerLeaf : Type 0
OneReplyPerLeaf = (sv : Services) (group : List ℕ) → ServicePremises sv
    → All (λ p. (leaf : ℕ) (r s : Reply) → MadeReply sv p leaf r → MadeReply sv p leaf s → reply_body group r ≡ reply_body group s)
    (ends sv.family)

-- of its state key too, whose leaf is the number of the view
abbrev pub OneStatePerLeaf : Type 0
OneStatePerLeaf = (sv : Services) (group : List ℕ) → ServicePremises sv
    → All (λ p. (r s : StateRecord) → MadeState sv p r → MadeState sv p s → r.view ≡ s.view → state_body group r ≡ state_body group s)
    (ends sv.family)

-- ---- a server and its process

-- the store of a process as it is, from where it has it
abbrev pub store_now : Process → Beginning → Option Store
store_now p b =
    let a = account_of p in
    let x = p.pool.view.number in
    held (holds a b x) (store_after (store_at a b x) (payloads_of p.delivered))

-- what it gives: its store at the beginning of the view, where it had it before the view, or from the genesis on
abbrev pub given_now : Process → Beginning → Option Store
given_now p b =
    let a = account_of p in
    let x = p.pool.view.number in
    held (holds a b x && (b.view == 0 || nat_lt b.view x)) (store_at a b x)

-- what the server keeps is its process's
pub record Follows (p : Process) (b : Beginning) (s : Server) : Type 0 where
  pub begun : b.view ≤ p.pool.view.number
  pub view : s.view ≡ p.pool.view
  pub delivered : s.delivered ≡ delivered_below (account_of p) p.pool.view.number + length p.delivered
  pub store : s.store ≡ store_now p b
  pub gives : s.gives ≡ given_now p b

-- a server that begins with a process follows it
abbrev pub BeginsFollowing : Type 0
BeginsFollowing = (p : Process) → Follows p genesis (server_of p)

-- given the notes of a turn, it follows the process after the turn. The views of a process are numbered by how many it left (`ViewsInARow`)
abbrev pub TurnFollows : Type 0
TurnFollows = (setting : Setting) (p : Process) (t : Turn) (q : Place) (b : Beginning) (s : Server) → p.pool.view.number ≡ length p.left
    → q.me ≡ p.me → Follows p b s → Follows (after setting p t) b (after_notes q s (outcome setting p t).notes)
