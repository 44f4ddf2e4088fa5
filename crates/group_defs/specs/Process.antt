-- The data of a process, and its start.
-- Names here (* for this crate alone):
--   Kind, all_kinds, Setting, keyed, key_of, Pool, Letter, Letter-discrete, Delivered, letter_of, Delivered-discrete, without_places,
--     places_in, Left, Process, start
--   as the reports see it: views_of, deliveries_of, delivered_from, earlier, signers_in, liars_of
use Rattle.std.specs.Prelude.{ℕ, ◌+◌, Bool, false, ◌==◌, max, List, [], ◌∷◌, ◌++◌, map, find, count_by, fold, sum, Option, None, option_map}
use native.Mathlib.Decide.{ℕ_discrete}
use Rattle.message_defs.specs.Below.{both, bytes_discrete, sorted}
use Rattle.group_defs.specs.Views.{View}
use Rattle.message_defs.specs.Updates.{Update, Value}
use Rattle.message_defs.specs.Statements.{Message, Message-discrete, Claim}

-- the kinds of statements
pub data Kind : Type 0 where
  Inits : Kind
  Echoes : Kind
  Orders : Kind
  Places : Kind
  Keeps : Kind
  Notifies : Kind
  Ends : Kind
  Readies : Kind
  Lasts : Kind
  Suggests : Kind
  Acks : Kind

-- in the order in which an event goes through them
abbrev pub all_kinds : List Kind
all_kinds = Inits ∷ Echoes ∷ Orders ∷ Places ∷ Keeps ∷ Notifies ∷ Ends ∷ Readies ∷ Lasts ∷ Suggests ∷ Acks ∷ []

-- What the processes of a family share. `valid` takes a key, a body and a signature; `signs` is the kinds that a
-- process signs, in this order: all of them, or fewer in a narrower world.
pub record Setting : Type 0 where
  pub group : List ℕ
  pub roster : List (ℕ × List ℕ)
  pub genesis : View
  pub valid : List ℕ → List ℕ → List ℕ → Bool
  pub signs : List Kind

-- the processes that the roster has a key of
abbrev pub keyed : Setting → List ℕ
keyed s = map (λ k. k.0) s.roster

-- the process's key in the roster
abbrev pub key_of : Setting → ℕ → Option (List ℕ)
key_of s p = option_map (λ k. k.1) (find (λ k. k.0 == p) s.roster)

-- the heard claims of a view, in order of hearing
pub record Pool : Type 0 where
  pub view : View
  pub heard : List Claim

-- a message with its payload
pub record Letter : Type 0 where
  pub message : Message
  pub payload : List ℕ

-- letters are equal where message and payload are
unfoldable pub Letter-discrete : Discrete Letter
Letter-discrete d e = both (λ m b. λ i. record { message = m i; payload = b i }) (λ q. λ i. (q i).message) (λ q. λ i. (q i).payload)
    (Message-discrete d.message e.message) (bytes_discrete d.payload e.payload)

-- what a member delivers: a message that the batch of the place names, and its payload
pub record Delivered : Type 0 where
  pub place : ℕ
  pub message : Message
  pub payload : List ℕ

-- the same without its place
abbrev pub letter_of : Delivered → Letter
letter_of d = record { message = d.message; payload = d.payload }

-- deliveries are equal where place, message and payload are
unfoldable pub Delivered-discrete : Discrete Delivered
Delivered-discrete d e = both (λ k s. λ i. record { place = k i; message = (s i).message; payload = (s i).payload }) (λ q. λ i. (q i).place)
    (λ q. λ i. letter_of (q i)) (ℕ_discrete d.place e.place) (Letter-discrete (letter_of d) (letter_of e))

-- the messages of a delivered list, in order: its entries without their places
abbrev pub without_places : List Delivered → List Letter
without_places ds = map letter_of ds

-- how many places were delivered: one more than the greatest of them, or 0
abbrev pub places_in : List Delivered → ℕ
places_in ds = fold (λ most d. max most (d.place + 1)) 0 ds

-- what is kept of a view that was left. `commit` is claims on the Ready content that decided it
pub record Left : Type 0 where
  pub view : View
  pub delivered : List Delivered
  pub commit : List Claim

-- the data of a process. Its secret is not among them: each turn brings what signs
pub record Process : Type 0 where
  pub me : ℕ
  -- the most messages of an own Order
  pub batch_limit : ℕ
  pub left : List Left
  pub previous : Option Pool
  pub pool : Pool
  pub delivered : List Delivered
  -- the rank and the value of the Ready content that gave it
  pub decision : Option (ℕ × Value)
  pub halted : Bool
  -- of all views, in order of signing
  pub signed : List Claim
  -- the first pair of each signer, the heard one first
  pub conflicts : List (Claim × Claim)
  pub perceived : List (ℕ × Update)
  pub accepted : List (List ℕ)

-- a process of this number and batch limit as it starts: in the genesis view, and nothing has happened
abbrev pub start : Setting → ℕ → ℕ → Process
start s me batch_limit = record {
  me = me;
  batch_limit = batch_limit;
  left = [];
  previous = None;
  pool = record { view = s.genesis; heard = [] };
  delivered = [];
  decision = None;
  halted = false;
  signed = [];
  conflicts = [];
  perceived = [];
  accepted = [];
}

-- ---- as the reports see it

-- the views that it installed, the current one last
abbrev pub views_of : Process → List View
views_of p = map (λ v. v.view) p.left ++ p.pool.view ∷ []

-- what it delivered in each of these views
abbrev pub deliveries_of : Process → List (List Delivered)
deliveries_of p = map (λ v. v.delivered) p.left ++ p.delivered ∷ []

-- how many of the sender's messages are among these
abbrev pub delivered_from : ℕ → List Delivered → ℕ
delivered_from sender ds = count_by (λ d. d.message.sender == sender) ds

-- the own messages delivered in the views that were left
abbrev pub earlier : Process → ℕ
earlier p = sum (map (λ v. delivered_from p.me v.delivered) p.left)

-- the signers of these pairs, rising
abbrev pub signers_in : List (Claim × Claim) → List ℕ
signers_in pairs = sorted (λ q. q ∷ []) (map (λ pair. pair.0.signer) pairs)

-- the signers with a kept conflict, rising
abbrev pub liars_of : Process → List ℕ
liars_of p = signers_in p.conflicts
