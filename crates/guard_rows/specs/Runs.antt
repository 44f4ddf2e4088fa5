-- What a guard makes of events: what each turn answers, those that it adds too, and whom it expels. Each answer is the reference's.
-- Names here (* for this crate alone):
--   expels*, expels_seen*, asked_next*, asked_next_seen*, by_note*, by_note_seen*, of_other_view*, of_other_view_seen*, in_order*,
--     in_order_seen*, of_itself*, of_itself_seen*, of_stranger*, of_stranger_seen*, as_stranger*, as_stranger_seen*, perceived_already*,
--     perceived_already_seen*, handed_again*, handed_again_seen*, forged_pair*, forged_pair_seen*, by_then*, by_then_seen*,
--     views_spent*, views_spent_seen*, Runs*
use Rattle.std.specs.Prelude.{◌≡◌, List, [], ◌∷◌, Some, None}
use Rattle.message_defs.specs.Updates.{Remove}
use Rattle.message_defs.specs.Statements.{Echo, Notify, End, Suggest, Ack, Ready}
use Rattle.message_defs.specs.Claims.{Claims}
use Rattle.group_defs.specs.Views.{ViewsSpent}
use Rattle.group_defs.specs.Events.{Event, Hand, Suspect, NoNext, Liar, Installs}
use Rattle.guard_rows.specs.Scripts.{s, spent, by, forged, msg, value, Seen, answers, expels_in}

unfoldable pub expels : List Event
expels = Hand 3 (Claims (by 3 (Echo 0 (msg 3 0) (97 ∷ [])) ∷ by 3 (Echo 0 (msg 3 0) (98 ∷ [])) ∷ [])) ∷ []

unfoldable pub expels_seen : List Seen
expels_seen = (None, ([]), ([]), (Liar 3 ∷ [])) ∷ (None, ((Notify 0 (Remove 3)) ∷ []), (((1 ∷ 2 ∷ 3 ∷ []), (1 ∷ 1 ∷ 1 ∷ 0 ∷ 5 ∷ 6 ∷ 0 ∷ 0 ∷ 1 ∷ 3 ∷ 1 ∷ 0 ∷ 0 ∷ 0 ∷ [])) ∷ []), ([])) ∷ []

unfoldable pub asked_next : List Event
asked_next = Hand 0 (Claims (by 0 (Notify 0 (Remove 3)) ∷ [])) ∷ Hand 0 (Claims (by 3 (Echo 0 (msg 3 0) (97 ∷ [])) ∷ by 3 (Echo 0 (msg 3 0) (98 ∷ [])) ∷ [])) ∷ []

unfoldable pub asked_next_seen : List Seen
asked_next_seen = (None, ([]), ([]), ([])) ∷ (None, ([]), ([]), (Liar 3 ∷ [])) ∷ (None, ((Notify 0 (Remove 3)) ∷ (End 0 0) ∷ []), (((0 ∷ 2 ∷ 3 ∷ []), (1 ∷ 1 ∷ 2 ∷ 0 ∷ 5 ∷ 6 ∷ 0 ∷ 0 ∷ 1 ∷ 3 ∷ 1 ∷ 1 ∷ 0 ∷ 0 ∷ 0 ∷ 5 ∷ 7 ∷ 0 ∷ 0 ∷ 0 ∷ 0 ∷ 1 ∷ 1 ∷ 0 ∷ 0 ∷ [])) ∷ []), ([])) ∷ []

unfoldable pub by_note : List Event
by_note = Hand 3 (Claims (by 3 (Echo 0 (msg 3 0) (97 ∷ [])) ∷ [])) ∷ Hand 3 (Claims (by 3 (Echo 0 (msg 3 0) (98 ∷ [])) ∷ [])) ∷ []

unfoldable pub by_note_seen : List Seen
by_note_seen = (None, ([]), ([]), ([])) ∷ (None, ([]), ([]), (Liar 3 ∷ [])) ∷ (None, ((Notify 0 (Remove 3)) ∷ []), (((1 ∷ 2 ∷ 3 ∷ []), (1 ∷ 1 ∷ 1 ∷ 0 ∷ 5 ∷ 6 ∷ 0 ∷ 0 ∷ 1 ∷ 3 ∷ 1 ∷ 0 ∷ 0 ∷ 0 ∷ [])) ∷ []), ([])) ∷ []

unfoldable pub of_other_view : List Event
of_other_view = Hand 2 (Claims (by 3 (End 9 1) ∷ by 3 (End 9 2) ∷ [])) ∷ []

unfoldable pub of_other_view_seen : List Seen
of_other_view_seen = (None, ([]), ([]), ([])) ∷ (None, ((Notify 0 (Remove 3)) ∷ []), (((1 ∷ 2 ∷ 3 ∷ []), (1 ∷ 1 ∷ 1 ∷ 0 ∷ 5 ∷ 6 ∷ 0 ∷ 0 ∷ 1 ∷ 3 ∷ 1 ∷ 0 ∷ 0 ∷ 0 ∷ [])) ∷ []), ([])) ∷ []

unfoldable pub in_order : List Event
in_order = Hand 3 (Claims (by 3 (End 0 1) ∷ by 1 (End 0 3) ∷ by 1 (End 0 4) ∷ by 3 (End 0 2) ∷ [])) ∷ []

unfoldable pub in_order_seen : List Seen
in_order_seen = (None, ([]), ([]), (Liar 1 ∷ Liar 3 ∷ [])) ∷ (None, ((Notify 0 (Remove 1)) ∷ []), (((1 ∷ 2 ∷ 3 ∷ []), (1 ∷ 1 ∷ 1 ∷ 0 ∷ 5 ∷ 6 ∷ 0 ∷ 0 ∷ 1 ∷ 1 ∷ 1 ∷ 0 ∷ 0 ∷ 0 ∷ [])) ∷ []), ([])) ∷ (None, ((Notify 0 (Remove 3)) ∷ []), (((1 ∷ 2 ∷ 3 ∷ []), (1 ∷ 1 ∷ 1 ∷ 0 ∷ 5 ∷ 6 ∷ 0 ∷ 0 ∷ 1 ∷ 3 ∷ 1 ∷ 0 ∷ 0 ∷ 0 ∷ [])) ∷ []), ([])) ∷ []

unfoldable pub of_itself : List Event
of_itself = Hand 2 (Claims (by 3 (Echo 0 (msg 3 0) (97 ∷ [])) ∷ by 3 (Echo 0 (msg 3 0) (98 ∷ [])) ∷ [])) ∷ []

unfoldable pub of_itself_seen : List Seen
of_itself_seen = (None, ([]), ([]), (Liar 3 ∷ [])) ∷ []

unfoldable pub of_stranger : List Event
of_stranger = Hand 2 (Claims (by 4 (End 0 1) ∷ by 4 (End 0 2) ∷ [])) ∷ []

unfoldable pub of_stranger_seen : List Seen
of_stranger_seen = (None, ([]), ([]), ([])) ∷ []

unfoldable pub as_stranger : List Event
as_stranger = Hand 2 (Claims (by 3 (Echo 0 (msg 3 0) (97 ∷ [])) ∷ by 3 (Echo 0 (msg 3 0) (98 ∷ [])) ∷ [])) ∷ []

unfoldable pub as_stranger_seen : List Seen
as_stranger_seen = (None, ([]), ([]), (Liar 3 ∷ [])) ∷ []

unfoldable pub perceived_already : List Event
perceived_already = Suspect 3 ∷ Hand 3 (Claims (by 3 (Echo 0 (msg 3 0) (97 ∷ [])) ∷ by 3 (Echo 0 (msg 3 0) (98 ∷ [])) ∷ [])) ∷ []

unfoldable pub perceived_already_seen : List Seen
perceived_already_seen = (None, ((Notify 0 (Remove 3)) ∷ []), (((1 ∷ 2 ∷ 3 ∷ []), (1 ∷ 1 ∷ 1 ∷ 0 ∷ 5 ∷ 6 ∷ 0 ∷ 0 ∷ 1 ∷ 3 ∷ 1 ∷ 0 ∷ 0 ∷ 0 ∷ [])) ∷ []), ([])) ∷ (None, ([]), ([]), (Liar 3 ∷ [])) ∷ []

unfoldable pub handed_again : List Event
handed_again = Hand 3 (Claims (by 3 (Echo 0 (msg 3 0) (97 ∷ [])) ∷ by 3 (Echo 0 (msg 3 0) (98 ∷ [])) ∷ [])) ∷ Hand 2 (Claims (by 3 (Echo 0 (msg 3 0) (97 ∷ [])) ∷ by 3 (Echo 0 (msg 3 0) (98 ∷ [])) ∷ [])) ∷ []

unfoldable pub handed_again_seen : List Seen
handed_again_seen = (None, ([]), ([]), (Liar 3 ∷ [])) ∷ (None, ((Notify 0 (Remove 3)) ∷ []), (((1 ∷ 2 ∷ 3 ∷ []), (1 ∷ 1 ∷ 1 ∷ 0 ∷ 5 ∷ 6 ∷ 0 ∷ 0 ∷ 1 ∷ 3 ∷ 1 ∷ 0 ∷ 0 ∷ 0 ∷ [])) ∷ []), ([])) ∷ (None, ([]), ([]), ([])) ∷ []

unfoldable pub forged_pair : List Event
forged_pair = Hand 3 (Claims (by 3 (Echo 0 (msg 3 0) (97 ∷ [])) ∷ forged 3 (Echo 0 (msg 3 0) (98 ∷ [])) (1 ∷ []) ∷ [])) ∷ []

unfoldable pub forged_pair_seen : List Seen
forged_pair_seen = (None, ([]), ([]), ([])) ∷ []

unfoldable pub by_then : List Event
by_then = Hand 0 (Claims (by 0 (Notify 0 (Remove 3)) ∷ by 1 (Notify 0 (Remove 3)) ∷ by 0 (End 0 0) ∷ by 1 (End 0 0) ∷ by 3 (End 0 0) ∷ by 0 (Suggest 0 0 (value (Remove 3) 0)) ∷ by 0 (Ack 0 0 (value (Remove 3) 0)) ∷ by 1 (Ack 0 0 (value (Remove 3) 0)) ∷ by 0 (Ready 0 0 (value (Remove 3) 0)) ∷ by 1 (Ready 0 0 (value (Remove 3) 0)) ∷ by 1 (End 0 5) ∷ by 3 (End 0 7) ∷ [])) ∷ []

unfoldable pub by_then_seen : List Seen
by_then_seen = (None, ((End 0 0) ∷ (Ack 0 0 (value (Remove 3) 0)) ∷ []), (((0 ∷ 1 ∷ 3 ∷ []), (1 ∷ 1 ∷ 2 ∷ 0 ∷ 5 ∷ 7 ∷ 0 ∷ 0 ∷ 0 ∷ 0 ∷ 1 ∷ 2 ∷ 0 ∷ 0 ∷ 0 ∷ 8 ∷ 10 ∷ 0 ∷ 0 ∷ 0 ∷ 1 ∷ 3 ∷ 0 ∷ 0 ∷ 1 ∷ 2 ∷ 0 ∷ 0 ∷ [])) ∷ []), (Liar 1 ∷ Liar 3 ∷ [])) ∷ (None, ((Notify 0 (Remove 1)) ∷ (Ready 0 0 (value (Remove 3) 0)) ∷ []), (((0 ∷ 1 ∷ 3 ∷ []), (1 ∷ 1 ∷ 2 ∷ 0 ∷ 5 ∷ 6 ∷ 0 ∷ 0 ∷ 1 ∷ 1 ∷ 1 ∷ 2 ∷ 0 ∷ 0 ∷ 0 ∷ 8 ∷ 11 ∷ 0 ∷ 0 ∷ 0 ∷ 1 ∷ 3 ∷ 0 ∷ 0 ∷ 1 ∷ 2 ∷ 0 ∷ 0 ∷ [])) ∷ []), (Installs (record { number = 1; members = 0 ∷ 1 ∷ 2 ∷ [] }) ∷ [])) ∷ []

unfoldable pub views_spent : List Event
views_spent = Hand 3 (Claims (by 3 (End 1023 1) ∷ by 3 (End 1023 2) ∷ [])) ∷ []

unfoldable pub views_spent_seen : List Seen
views_spent_seen = (None, ([]), ([]), (Liar 3 ∷ [])) ∷ (Some (NoNext ViewsSpent), ([]), ([]), ([])) ∷ []

-- the row: what the definitions give
pub record Runs : Type 0 where
  -- row «guard_expels», process 0: the frame convicts 3, who is expelled at once
  pub is_expels : answers s 0 expels ≡ expels_seen
  pub expels_whom : expels_in s 0 expels ≡ 3 ∷ []
  -- process 1: it heard 0 ask for the removal, and then the same claims in an accusation: with its own Notify the view ends
  pub is_asked_next : answers s 1 asked_next ≡ asked_next_seen
  pub asked_next_whom : expels_in s 1 asked_next ≡ 3 ∷ []
  -- two claims in two frames: neither frame convicts, but a note calls 3 a liar
  pub is_by_note : answers s 0 by_note ≡ by_note_seen
  pub by_note_whom : expels_in s 0 by_note ≡ 3 ∷ []
  -- claims of a view to come are not kept, and convict all the same
  pub is_of_other_view : answers s 0 of_other_view ≡ of_other_view_seen
  pub of_other_view_whom : expels_in s 0 of_other_view ≡ 3 ∷ []
  -- two convicted, in rising order
  pub is_in_order : answers s 0 in_order ≡ in_order_seen
  pub in_order_whom : expels_in s 0 in_order ≡ 1 ∷ 3 ∷ []
  -- a process does not expel itself
  pub is_of_itself : answers s 3 of_itself ≡ of_itself_seen
  pub of_itself_whom : expels_in s 3 of_itself ≡ []
  -- nor one that is no member
  pub is_of_stranger : answers s 0 of_stranger ≡ of_stranger_seen
  pub of_stranger_whom : expels_in s 0 of_stranger ≡ []
  -- one that is no member expels none
  pub is_as_stranger : answers s 4 as_stranger ≡ as_stranger_seen
  pub as_stranger_whom : expels_in s 4 as_stranger ≡ []
  -- none whose removal it perceived in the view
  pub is_perceived_already : answers s 0 perceived_already ≡ perceived_already_seen
  pub perceived_already_whom : expels_in s 0 perceived_already ≡ []
  -- so a frame that comes again expels once
  pub is_handed_again : answers s 0 handed_again ≡ handed_again_seen
  pub handed_again_whom : expels_in s 0 handed_again ≡ 3 ∷ []
  -- a frame whose second signature is not valid expels none
  pub is_forged_pair : answers s 0 forged_pair ≡ forged_pair_seen
  pub forged_pair_whom : expels_in s 0 forged_pair ≡ []
  -- each is judged in the view of its turn: the Suspect of 1 ends the view and removes 3, who is convicted too
  pub is_by_then : answers s 2 by_then ≡ by_then_seen
  pub by_then_whom : expels_in s 2 by_then ≡ 1 ∷ []
  -- in the last view the Suspect is refused
  pub is_views_spent : answers spent 0 views_spent ≡ views_spent_seen
  pub views_spent_whom : expels_in spent 0 views_spent ≡ 3 ∷ []
