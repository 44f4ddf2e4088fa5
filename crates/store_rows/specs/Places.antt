-- Positions in batches, a key that is spent, and a process that was no member of a view.
use Rattle.std.specs.Prelude.{◌≡◌, ℕ, List, [], ◌∷◌, ◌++◌, Option, Some, None, true}
use Rattle.group_defs.specs.Views.{View}
use Rattle.group_defs.specs.Process.{Setting, all_kinds, start}
use Rattle.group_defs.specs.Events.{Note, Delivers, Installs, Liar}
use Rattle.store_defs.specs.Records.{Reply}
use Rattle.store_defs.specs.Keys.{Signs}
use Rattle.store_defs.specs.Serving.{Place, ReplyWord, Server, Signed, NoLeaf, NoStore, Reported, Nothing, ReportedReply, after_note, server_of, reported_of}
use Rattle.store_rows.specs.Scripts.{delivered, get_a, set_a}

-- a key of `total` leaves; a signature is the number of its leaf
abbrev pub leaves : ℕ → Signs
leaves total = record { total = total; public = []; signature = λ leaf body. leaf ∷ [] }

abbrev pub place_with : ℕ → Place
place_with total = record { me = 0; group = []; replies = leaves total; states = leaves total }

unfoldable pub s : Setting
s = record {
  group = [];
  roster = (0, []) ∷ (1, []) ∷ [];
  genesis = record { number = 0; members = 0 ∷ 1 ∷ [] };
  valid = λ key body signature. true;
  signs = all_kinds;
}

unfoldable pub outside : View
outside = record { number = 1; members = 1 ∷ [] }

unfoldable pub again : View
again = record { number = 2; members = 1 ∷ 0 ∷ [] }

-- place and position of a reply, its answer and the number of its leaf
abbrev pub seen : Reported → List (ℕ × ℕ × List ℕ × List ℕ) × List ReplyWord
seen Nothing = ([], [])
seen (ReportedReply (Signed r)) = ((r.place, r.position, r.answer, r.signature) ∷ [], [])
seen (ReportedReply NoLeaf) = ([], NoLeaf ∷ [])
seen (ReportedReply NoStore) = ([], NoStore ∷ [])

abbrev pub all_seen : Place → Server → List Note → List (List (ℕ × ℕ × List ℕ × List ℕ) × List ReplyWord)
all_seen q s [] = []
all_seen q s (note ∷ notes) = seen (reported_of q s note) ∷ all_seen q (after_note q s note) notes

-- the row: what the definitions give
pub record Places : Type 0 where
  -- three messages of place 0, one of place 1, and place 0 of the next view
  pub positions : all_seen (place_with 9) (server_of (start s 0 16))
      (Delivers 0 (delivered 0 1 0 get_a) ∷ Delivers 0 (delivered 0 1 1 set_a) ∷ Delivers 0 (delivered 0 0 0 get_a)
      ∷ Delivers 0 (delivered 1 0 1 get_a) ∷ Installs (record { number = 1; members = 0 ∷ 1 ∷ [] }) ∷ Delivers 1 (delivered 0 1 0 get_a) ∷ [])
      ≡ ((0, 0, 2 ∷ [], 0 ∷ []) ∷ [], []) ∷ ((0, 1, 0 ∷ [], 1 ∷ []) ∷ [], []) ∷ ((0, 2, 1 ∷ 98 ∷ [], 2 ∷ []) ∷ [], [])
      ∷ ((1, 0, 1 ∷ 98 ∷ [], 3 ∷ []) ∷ [], []) ∷ ([], []) ∷ ((0, 0, 1 ∷ 98 ∷ [], 4 ∷ []) ∷ [], []) ∷ []
  -- a key of one leaf is spent from the second message on
  pub spent : all_seen (place_with 1) (server_of (start s 0 16)) (Delivers 0 (delivered 0 1 0 set_a) ∷ Liar 1 ∷ Delivers 0 (delivered 1 1 1 get_a) ∷ [])
      ≡ ((0, 0, 0 ∷ [], 0 ∷ []) ∷ [], []) ∷ ([], []) ∷ ([], NoLeaf ∷ []) ∷ []
  -- who was outside in view 1 has no store in view 2, whatever the key has left
  pub back : all_seen (place_with 1) (server_of (start s 0 16)) (Delivers 0 (delivered 0 1 0 set_a) ∷ Installs outside ∷ Installs again
      ∷ Delivers 2 (delivered 0 1 0 get_a) ∷ [])
      ≡ ((0, 0, 0 ∷ [], 0 ∷ []) ∷ [], []) ∷ ([], []) ∷ ([], []) ∷ ([], NoStore ∷ []) ∷ []
