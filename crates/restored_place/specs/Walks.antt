-- What is gathered from the own claims of all views, one after the other, for the view of one number.
use Rattle.std.specs.Prelude.{ℕ, not, ◌&&◌, ◌==◌, max, List, [], ◌∷◌, ◌++◌, Option, None, if◌then◌else◌, option_to_list}
use Rattle.std.specs.List.{list_any}
use Rattle.message_defs.specs.Updates.{Value}
use Rattle.message_defs.specs.Statements.{Batch, Statement, Claim, slot_of, view_of}
use Rattle.group_defs.specs.Certified.{ordered, rank_said, readied}
use Rattle.claim_index.specs.declared.key.SlotKey.{SlotKey}
use Rattle.own_place.specs.Words.{slot_key, same_slot_key}
use Rattle.own_place.specs.Noting.{ready_after}

-- the rank of a Last, an Ack or a Ready of the view of this number, else 0
abbrev pub rank_in : ℕ → Statement → ℕ
rank_in number st = if view_of st == number then rank_said st else 0

abbrev pub greatest : ℕ → ℕ → List Claim → ℕ
greatest number most [] = most
greatest number most (c ∷ cs) = greatest number (max most (rank_in number c.statement)) cs

-- the rank and the value of a Ready of the view of this number
abbrev pub ready_in : ℕ → Statement → Option (ℕ × Value)
ready_in number st = if view_of st == number then readied st else None

abbrev pub readies : ℕ → Option (ℕ × Value) → List Claim → Option (ℕ × Value)
readies number ready [] = ready
readies number ready (c ∷ cs) = readies number (ready_after ready (ready_in number c.statement)) cs

-- the batch of an Order of the view of this number
abbrev pub batch_said : ℕ → Statement → Option Batch
batch_said number st = if view_of st == number then ordered st else None

abbrev pub with_orders : ℕ → List Batch → List Claim → List Batch
with_orders number bs [] = bs
with_orders number bs (c ∷ cs) = with_orders number (bs ++ option_to_list (batch_said number c.statement)) cs

-- the key of the statement's slot after these, where it is of the view of this number and none of them
abbrev pub with_slot : ℕ → List SlotKey → Statement → List SlotKey
with_slot number keys st =
    if view_of st == number && not (list_any (same_slot_key (slot_key (slot_of st))) keys) then keys ++ slot_key (slot_of st) ∷ [] else keys

abbrev pub with_slots : ℕ → List SlotKey → List Claim → List SlotKey
with_slots number keys [] = keys
with_slots number keys (c ∷ cs) = with_slots number (with_slot number keys c.statement) cs
