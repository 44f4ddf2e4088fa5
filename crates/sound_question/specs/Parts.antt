-- The parts of soundness, as a walk tests them.
use Rattle.std.specs.Prelude.{ℕ, ◌+◌, Bool, true, false, ◌&&◌, ◌==◌, nat_le, nat_lt, if◌then◌else◌, List, [], ◌∷◌, map}
use Rattle.message_defs.specs.Limits.{most_messages}
use Rattle.message_defs.specs.Updates.{Update}
use Rattle.group_defs.specs.Views.{View, is_possible, next_view}
use Rattle.group_defs.specs.Process.{Letter, Delivered}
use Rattle.group_defs.specs.Accounts.{of_sender, same_views}

-- the update is possible in the first view and gives the other one
abbrev pub gives : List ℕ → View → View → Update → Bool
gives keyed v w u = is_possible keyed v u && same_views (w ∷ []) (next_view v u ∷ [])

-- the payloads of the sender's messages
abbrev pub payloads_of : ℕ → List Letter → List (List ℕ)
payloads_of sender ds = map (λ d. d.payload) (of_sender sender ds)

-- After `places` places, the last of which has `messages` messages: each message is the first of the next place, or one more of the last
-- place, which has at most 16
abbrev pub steps : ℕ → ℕ → List Delivered → Bool
steps places messages [] = true
steps places messages (d ∷ ds) =
    if d.place == places then steps (places + 1) 1 ds
    else if (d.place + 1 == places) && nat_lt messages most_messages then steps places (messages + 1) ds else false

-- the same message at the same place
abbrev pub same_slot : Delivered → Delivered → Bool
same_slot d e = (d.place == e.place) && (d.message.sender == e.message.sender) && (d.message.number == e.message.number)

-- After `places` places, the last of which may go on: the first list is the front of the other, payloads aside, and what more the other
-- has is at later places
abbrev pub front : ℕ → List Delivered → List Delivered → Bool
front places [] [] = true
front places [] (e ∷ es) = nat_le places e.place
front places (d ∷ ds) [] = false
front places (d ∷ ds) (e ∷ es) = same_slot d e && front (d.place + 1) ds es
