-- Statements, their slots, and claims. The body that is signed is in Spelling.
-- Names here (* for this crate alone):
--   Message, Message-discrete, Batch, Batch-discrete, Statement, Slot, slot_of, kind_number, slot_numbers, view_of
--   parts that only some kinds have: batch_of, messages_of, payload_of, value_of
--   equality: same_slot, same_statement
--   claims: Claim, Conflicts
use Rattle.std.specs.Prelude.{◌≡◌, ◌≢◌, ℕ, Bool, List, [], ◌∷◌, Option, Some, None}
use native.Mathlib.Decide.{ℕ_discrete}
use Rattle.byte_defs.specs.Equality.{is_yes, both, bytes_discrete, list_discrete, option_discrete, pair_discrete}
use Rattle.message_defs.specs.Updates.{Update, Update-discrete, Value, Value-discrete, update_numbers}

-- the message of this number of this sender
pub record Message : Type 0 where
  pub sender : ℕ
  pub number : ℕ

unfoldable pub Message-discrete : Discrete Message
Message-discrete a b = both (λ s n. λ i. record { sender = s i; number = n i }) (λ e. λ i. (e i).sender) (λ e. λ i. (e i).number)
    (ℕ_discrete a.sender b.sender) (ℕ_discrete a.number b.number)

-- what a place holds: messages, in the order in which they are delivered
abbrev pub Batch : Type 0
Batch = List Message

-- batches are equal message by message
unfoldable pub Batch-discrete : Discrete Batch
Batch-discrete b c = list_discrete Message-discrete b c

-- what a process signs of a view, in eleven kinds
pub data Statement : Type 0 where
  Init : (view number : ℕ) (payload : List ℕ) → Statement
  Echo : (view : ℕ) (message : Message) (payload : List ℕ) → Statement
  Order : (view place : ℕ) (batch : Batch) → Statement
  Place : (view place : ℕ) (batch : Batch) → Statement
  Keep : (view place : ℕ) (batch : Batch) → Statement
  Notify : (view : ℕ) (update : Update) → Statement
  End : (view length : ℕ) → Statement
  Last : (view rank : ℕ) (ready : Option (ℕ × Value)) → Statement
  Suggest : (view rank : ℕ) (value : Value) → Statement
  Ack : (view rank : ℕ) (value : Value) → Statement
  Ready : (view rank : ℕ) (value : Value) → Statement
  deriving Discrete as Statement-discrete

-- a kind and a slot of that kind: of each a correct process signs one statement at most
pub data Slot : Type 0 where
  InitAt : (view number : ℕ) → Slot
  EchoAt : (view : ℕ) (message : Message) → Slot
  OrderAt : (view place : ℕ) → Slot
  PlaceAt : (view place : ℕ) → Slot
  KeepAt : (view place : ℕ) → Slot
  NotifyAt : (view : ℕ) (update : Update) → Slot
  EndAt : (view : ℕ) → Slot
  LastAt : (view rank : ℕ) → Slot
  SuggestAt : (view rank : ℕ) → Slot
  AckAt : (view rank : ℕ) → Slot
  ReadyAt : (view rank : ℕ) → Slot
  deriving Discrete as Slot-discrete

-- the slot that a statement fills
abbrev pub slot_of : Statement → Slot
slot_of (Init x l payload) = InitAt x l
slot_of (Echo x m payload) = EchoAt x m
slot_of (Order x k b) = OrderAt x k
slot_of (Place x k b) = PlaceAt x k
slot_of (Keep x k b) = KeepAt x k
slot_of (Notify x u) = NotifyAt x u
slot_of (End x k) = EndAt x
slot_of (Last x r ready) = LastAt x r
slot_of (Suggest x r v) = SuggestAt x r
slot_of (Ack x r v) = AckAt x r
slot_of (Ready x r v) = ReadyAt x r

-- the number of the kind, as slots have it: a statement's first byte, where its place holds one message
abbrev pub kind_number : Statement → ℕ
kind_number (Init x l payload) = 1
kind_number (Echo x m payload) = 2
kind_number (Order x k b) = 3
kind_number (Place x k b) = 4
kind_number (Keep x k b) = 5
kind_number (Notify x u) = 6
kind_number (End x k) = 7
kind_number (Last x r ready) = 8
kind_number (Suggest x r v) = 9
kind_number (Ack x r v) = 10
kind_number (Ready x r v) = 11

-- the kind's number, the view's, and then what is left of the slot: slots are ordered by these
abbrev pub slot_numbers : Slot → List ℕ
slot_numbers (InitAt x l) = 1 ∷ x ∷ l ∷ []
slot_numbers (EchoAt x m) = 2 ∷ x ∷ m.sender ∷ m.number ∷ []
slot_numbers (OrderAt x k) = 3 ∷ x ∷ k ∷ []
slot_numbers (PlaceAt x k) = 4 ∷ x ∷ k ∷ []
slot_numbers (KeepAt x k) = 5 ∷ x ∷ k ∷ []
slot_numbers (NotifyAt x u) = 6 ∷ x ∷ update_numbers u
slot_numbers (EndAt x) = 7 ∷ x ∷ []
slot_numbers (LastAt x r) = 8 ∷ x ∷ r ∷ []
slot_numbers (SuggestAt x r) = 9 ∷ x ∷ r ∷ []
slot_numbers (AckAt x r) = 10 ∷ x ∷ r ∷ []
slot_numbers (ReadyAt x r) = 11 ∷ x ∷ r ∷ []

-- the number of the view that a statement belongs to
abbrev pub view_of : Statement → ℕ
view_of (Init x l payload) = x
view_of (Echo x m payload) = x
view_of (Order x k b) = x
view_of (Place x k b) = x
view_of (Keep x k b) = x
view_of (Notify x u) = x
view_of (End x k) = x
view_of (Last x r ready) = x
view_of (Suggest x r v) = x
view_of (Ack x r v) = x
view_of (Ready x r v) = x

-- ---- parts that only some kinds have

-- the batch of an Order, a Place or a Keep
abbrev pub batch_of : Statement → Option Batch
batch_of (Order x k b) = Some b
batch_of (Place x k b) = Some b
batch_of (Keep x k b) = Some b
batch_of _ = None

-- the messages that a statement names: an Echo its message, an Order, a Place or a Keep those of its batch
abbrev pub messages_of : Statement → List Message
messages_of (Echo x m payload) = m ∷ []
messages_of (Order x k b) = b
messages_of (Place x k b) = b
messages_of (Keep x k b) = b
messages_of _ = []

-- the payload of an Init or an Echo
abbrev pub payload_of : Statement → Option (List ℕ)
payload_of (Init x l payload) = Some payload
payload_of (Echo x m payload) = Some payload
payload_of _ = None

-- the value of a Suggest, an Ack or a Ready
abbrev pub value_of : Statement → Option Value
value_of (Suggest x r v) = Some v
value_of (Ack x r v) = Some v
value_of (Ready x r v) = Some v
value_of _ = None

-- ---- equality

-- the slots are equal
abbrev pub same_slot : Slot → Slot → Bool
same_slot a b = is_yes (Slot-discrete ℕ_discrete Message-discrete (Update-discrete ℕ_discrete) a b)

-- the statements are equal, in kind and in all fields
abbrev pub same_statement : Statement → Statement → Bool
same_statement a b = is_yes (Statement-discrete ℕ_discrete bytes_discrete Message-discrete Batch-discrete (Update-discrete ℕ_discrete)
    (option_discrete (pair_discrete ℕ_discrete Value-discrete)) Value-discrete a b)

-- ---- claims

-- who says it, what is said, and the signature on the body of both
pub record Claim : Type 0 where
  pub signer : ℕ
  pub statement : Statement
  pub signature : List ℕ

-- two statements of one signer that a correct one does not make
abbrev pub Conflicts : Claim → Claim → Type 0
Conflicts a b = (a.signer ≡ b.signer) × (slot_of a.statement ≡ slot_of b.statement) × (a.statement ≢ b.statement)
