-- What signing one statement changes of the own place.
use Rattle.std.specs.Prelude.{◌≡◌, ℕ, ◌+◌, Bool, true, false, IsTrue, ◌||◌, max, List, [], ◌∷◌, ◌++◌, Option, Some, None}
use Rattle.std.specs.List.{list_all}
use Rattle.message_defs.specs.Updates.{Value}
use Rattle.message_defs.specs.Statements.{Message, Batch, Statement, Order, End, slot_of}
use Rattle.group_defs.specs.Views.{View, is_member}
use Rattle.group_defs.specs.Certified.{rank_said, readied, higher}
use Rattle.group_defs.specs.Due.{follows}
use Rattle.claim_index.specs.Statements.{report}
use Rattle.rule_laws.specs.Placing.{counts_in}
use Rattle.claim_index.specs.Keys.{slot_key}
use Rattle.own_place.specs.declared.own.Own.{Own}

-- the statement is an End
abbrev pub is_end : Statement → Bool
is_end (End x k) = true
is_end _ = false

-- the messages of an Order, and none of another statement
abbrev pub ordered_messages : Statement → Batch
ordered_messages (Order x k b) = b
ordered_messages _ = []

-- how many Orders there are: one more than the place of this one
abbrev pub orders_after : ℕ → Statement → ℕ
orders_after n (Order x k b) = k + 1
orders_after n _ = n

-- the Ready of greater rank, where the other is one
abbrev pub ready_after : Option (ℕ × Value) → Option (ℕ × Value) → Option (ℕ × Value)
ready_after ready None = ready
ready_after ready (Some r) = higher ready r

-- the messages are of members, and each is its sender's next one after these and those before it
pub record ComeNext (v : View) (before : List Message) (b : Batch) : Type 0 where
  pub members : IsTrue (list_all (λ m. is_member v m.sender) b)
  pub in_order : IsTrue (follows before b)

-- the counts with these messages more, where they come next
abbrev pub CountsMore : View → List ℕ → Batch → List ℕ → Type 0
CountsMore v counts b counts' = (before : List Message) → ComeNext v before b → counts_in v before ≡ counts
    → counts_in v (before ++ b) ≡ counts'

-- the slot is signed; the End, the greatest rank, the Ready of greatest rank and the Orders are those with this statement more; and nothing
-- else changes
pub record IsNoted (v : View) (st : Statement) (own own' : Own) : Type 0 where
  pub number : own'.me ≡ own.me
  pub position : own'.position ≡ own.position
  pub keys : own'.keyed ≡ own.keyed
  pub slots : own'.signed.slots ≡ own.signed.slots ++ slot_key (slot_of st) ∷ []
  pub end : own'.ended ≡ (own.ended || is_end st)
  pub greatest : own'.rank ≡ max own.rank (rank_said st)
  pub last_ready : report own'.ready ≡ ready_after (report own.ready) (readied st)
  pub how_many : own'.ordered ≡ orders_after own.ordered st
  pub names : CountsMore v own.orders.items (ordered_messages st) own'.orders.items
  pub places : own'.delivered ≡ own.delivered
  pub counts : own'.counts.items ≡ own.counts.items
  pub before : own'.earlier ≡ own.earlier
