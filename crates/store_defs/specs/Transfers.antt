-- A joiner: which state more than f members of its view gave.
-- Names here (* for this crate alone):
--   Transfer, new_transfer, is_signed, is_counted, has_given, givers, with_state, counted, offer, with_record, transfer_after
use Rattle.std.specs.Prelude.{ℕ, Bool, ◌&&◌, not, ◌==◌, nat_lt, if◌then◌else◌, List, [], ◌∷◌, ◌++◌, length, count_by, Option, Some, None}
use Rattle.std.specs.List.{list_any}
use Rattle.std.specs.Option.{option_or, unwrap_or}
use Rattle.byte_defs.specs.Choices.{first_that_holds, is_some_and}
use Rattle.byte_defs.specs.Equality.{same_bytes}
use Rattle.group_defs.specs.Views.{View, faulty, is_member}
use Rattle.store_defs.specs.declared.Taken.{Taken}
use Rattle.store_defs.specs.declared.Taken.TheVariants.{OtherView, Stranger, Unsigned, Known, Ready, Counted}
use Rattle.store_defs.specs.Records.{StateRecord, state_body}
use Rattle.store_defs.specs.Votes.{Valid}

-- the view, who was counted with which state, in order, and the state that more than f members gave first
pub record Transfer : Type 0 where
  pub view : View
  pub counted : List (ℕ × List ℕ)
  pub state : Option (List ℕ)

abbrev pub new_transfer : View → Transfer
new_transfer view = record { view = view; counted = []; state = None }

-- its signature is valid under the key, where there is one
abbrev pub is_signed : Valid → List ℕ → Option (List ℕ) → StateRecord → Bool
is_signed valid group key r = is_some_and key (λ k. valid k (state_body group r) r.signature)

-- the signer is counted
abbrev pub is_counted : Transfer → ℕ → Bool
is_counted t m = list_any (λ g. g.0 == m) t.counted

-- the signer is counted with this state
abbrev pub has_given : Transfer → List ℕ → ℕ → Bool
has_given t state m = list_any (λ g. (g.0 == m) && same_bytes state g.1) t.counted

-- how many members gave the state
abbrev pub givers : Transfer → List ℕ → ℕ
givers t state = count_by (has_given t state) t.view.members

-- with one state more
abbrev pub with_state : Transfer → StateRecord → Transfer
with_state t r = record t { counted = t.counted ++ (r.signer, r.state) ∷ [] }

-- how many members have now given the state, or that they are enough
abbrev pub counted : Transfer → StateRecord → Taken
counted t r =
    if nat_lt (faulty (length t.view.members)) (givers (with_state t r) r.state) then Ready else Counted (givers (with_state t r) r.state)

-- the first that holds
unfoldable pub offer : Valid → List ℕ → Option (List ℕ) → Transfer → StateRecord → Taken
offer valid group key t r = unwrap_or (first_that_holds (
    (not (r.view == t.view.number), OtherView)
    ∷ (not (is_member t.view r.signer), Stranger)
    ∷ (not (is_signed valid group key r), Unsigned)
    ∷ (is_counted t r.signer, Known)
    ∷ [])) (counted t r)

-- the transfer with the state, where it counts; once a state is ready it stays
abbrev pub with_record : Transfer → StateRecord → Taken → Transfer
with_record t r Ready = record (with_state t r) { state = option_or t.state (Some r.state) }
with_record t r (Counted n) = with_state t r
with_record t r OtherView = t
with_record t r Stranger = t
with_record t r Unsigned = t
with_record t r Known = t

-- after these records, one after the other, each with the key that was handed in then
unfoldable pub transfer_after : Valid → List ℕ → Transfer → List (Option (List ℕ) × StateRecord) → Transfer
transfer_after valid group t [] = t
transfer_after valid group t (r ∷ rs) = transfer_after valid group (with_record t r.1 (offer valid group r.0 t r.1)) rs
