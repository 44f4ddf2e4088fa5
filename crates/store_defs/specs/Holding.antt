-- Which processes hold the store, from what they delivered and the states that they took.
-- Names here (* for this crate alone):
--   Beginning, genesis, was_member, stayed, holds, payloads_of, payloads_in, store_over, store_at, store_below
--   leaves: delivered_below
--   what a process says of the store: IsDeliveredHere, Replies, Gives
use Rattle.std.specs.Prelude.{◌≡◌, ℕ, zero, suc, ◌+◌, ◌-◌, Bool, true, ◌&&◌, nat_le, List, [], ◌∷◌, ◌++◌, length, map, take, drop, IsTrue}
use Rattle.std.specs.List.{list_any}
use Rattle.group_defs.specs.Views.{is_member}
use Rattle.group_defs.specs.Process.{Letter, Delivered}
use Rattle.group_defs.specs.Accounts.{Account, Group, delivered_in, at_place}
use Rattle.store_defs.specs.Stores.{Store, empty, store_after, store_bytes, answer_to}
use Rattle.store_defs.specs.Records.{Reply, StateRecord}

-- where a process has the store from: it had this store at the beginning of the view of this number
pub record Beginning : Type 0 where
  pub view : ℕ
  pub store : Store

-- the members of the genesis view have the empty store
abbrev pub genesis : Beginning
genesis = record { view = 0; store = empty }

-- it was a member of its view of this number
abbrev pub was_member : Account → ℕ → Bool
was_member a x = list_any (λ v. is_member v a.me) (take 1 (drop x a.views))

-- it was a member of n views from number y on
unfoldable pub stayed : Account → ℕ → ℕ → Bool
stayed a y zero = true
stayed a y (suc n) = stayed a y n && was_member a (y + n)

-- it holds the store at the beginning of view x: it had it in an earlier view or in this one, and was a member from there on
abbrev pub holds : Account → Beginning → ℕ → Bool
holds a b x = nat_le b.view x && stayed a b.view (x - b.view + 1)

-- the payloads of these deliveries, in order
abbrev pub payloads_of : List Delivered → List (List ℕ)
payloads_of ds = map (λ d. d.payload) ds

-- the payloads of these messages, in order
abbrev pub payloads_in : List Letter → List (List ℕ)
payloads_in ds = map (λ d. d.payload) ds

-- the store after n views from number y on, each of which delivers these payloads
unfoldable pub store_over : (ℕ → List (List ℕ)) → Store → ℕ → ℕ → Store
store_over payloads s y zero = s
store_over payloads s y (suc n) = store_after (store_over payloads s y n) (payloads (y + n))

-- the store of a process at the beginning of view x, from where it has it
abbrev pub store_at : Account → Beginning → ℕ → Store
store_at a b x = store_over (λ z. payloads_of (delivered_in a z)) b.store b.view (x - b.view)

-- the store after the group's whole sequences of the views below x
abbrev pub store_below : Group → ℕ → Store
store_below g x = store_over (λ z. payloads_in (g.sequence z)) empty 0 x

-- ---- leaves

-- how many messages it delivered in the views below x
unfoldable pub delivered_below : Account → ℕ → ℕ
delivered_below a zero = 0
delivered_below a (suc x) = delivered_below a x + length (delivered_in a x)

-- ---- what a process says of the store

-- which message of a view is answered: those that the process delivered in the view before it, the message, and those after it
pub record IsDeliveredHere (ds : List Delivered) : Type 0 where
  pub before : List Delivered
  pub at : Delivered
  pub behind : List Delivered
  pub parts : ds ≡ before ++ at ∷ behind

-- The process replies so to a message that it delivered: with the place, with the number of messages before it at that place, and with the
-- answer of its store. The reply is signed with the leaf whose number is the number of messages that it delivered before.
pub record Replies (a : Account) (b : Beginning) (leaf : ℕ) (r : Reply) : Type 0 where
  pub delivery : IsDeliveredHere (delivered_in a r.view)
  pub holds : IsTrue (holds a b r.view)
  pub signer : r.signer ≡ a.me
  pub place : r.place ≡ delivery.at.place
  pub position : r.position ≡ length (at_place delivery.at.place delivery.before)
  pub payload : r.payload ≡ delivery.at.payload
  pub answer : r.answer ≡ answer_to (store_after (store_at a b r.view) (payloads_of delivery.before)) delivery.at.payload
  pub leaf_is : leaf ≡ delivered_below a r.view + length delivery.before

-- The process gives this state: its store at the beginning of the view. It is signed with the leaf whose number is the view's.
pub record Gives (a : Account) (b : Beginning) (r : StateRecord) : Type 0 where
  pub holds : IsTrue (holds a b r.view)
  pub signer : r.signer ≡ a.me
  pub state : r.state ≡ store_bytes (store_at a b r.view)
