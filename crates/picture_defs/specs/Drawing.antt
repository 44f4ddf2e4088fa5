-- The bars of views, and the arrows of frames.
-- Names here (* for this crate alone):
--   views: view_class*, view_bar*, liar_line*, life, note_bar, bars
--   frames: frames_in*, sent_in, arrow_class*, before_bar*, departure*, frame_arrow*, bytes_arrow*, lost_arrow*, loss_arrow*,
--     handed_arrow*, arrow
use Rattle.std.specs.Prelude.{ℕ, ◌+◌, ◌-◌, ◌%◌, ◌==◌, nat_lt, if◌then◌else◌, List, [], ◌++◌, length, replicate, codes, slice_index_or}
use Rattle.std.specs.List.{flat_map}
use Rattle.group_defs.specs.Events.{Note, Installs}
use Rattle.replay_defs.specs.Schedules.{Listed, is_corrupt}
use Rattle.trace_defs.specs.Phrases.{Word}
use Rattle.trace_defs.specs.Happenings.{Handed, Frame, Bytes, Happening, Takes, Loses, Lies}
use Rattle.picture_defs.specs.Elements.{Point, stroke, dot, bar}
use Rattle.picture_defs.specs.Layout.{column, row, place}

-- ---- views

-- views take turns in four colours
abbrev pub view_class : ℕ → Word
view_class x =
    if x % 4 == 0 then codes "view0" else (if x % 4 == 1 then codes "view1" else (if x % 4 == 2 then codes "view2" else codes "view3"))

-- the bar of a view that process p installs in row k, down to the last of n rows; that of its next view covers the rest of it
abbrev pub view_bar : List Listed → ℕ → ℕ → ℕ → ℕ → List ℕ
view_bar ls n p x k = bar (view_class x) (record { x = column ls p - 4; y = row k }) 8 (row n - row k)

-- the line of a corrupt process, through n rows
abbrev pub liar_line : List Listed → ℕ → ℕ → List ℕ
liar_line ls n p = stroke (codes "liar") (place ls p 0) (place ls p n)

-- the life of a process in n rows: a line, where it is corrupt; else it begins in view 0
abbrev pub life : List Listed → ℕ → Listed → List ℕ
life ls n l = if l.corrupt then liar_line ls n l.process else view_bar ls n l.process 0 0

-- a view that process p installs in row k begins a bar
abbrev pub note_bar : List Listed → ℕ → ℕ → ℕ → Note → List ℕ
note_bar ls n p k (Installs v) = view_bar ls n p v.number k
note_bar ls n p k _ = []

-- the bars of what happens in row k
abbrev pub bars : List Listed → ℕ → ℕ → Happening → List ℕ
bars ls n k (Takes p handed first o) = flat_map (note_bar ls n p k) o.notes
bars ls n k _ = []

-- ---- frames

-- how many frames are sent in what happens
abbrev pub frames_in : Happening → ℕ
frames_in (Takes p handed first o) = length o.sends
frames_in (Lies signer statement frame to) = 1
frames_in _ = 0

-- row k, once for each frame that is sent in it
abbrev pub sent_in : ℕ → Happening → List ℕ
sent_in k what = replicate (frames_in what) k

-- frames of corrupt processes are lies
abbrev pub arrow_class : List Listed → ℕ → Word
arrow_class ls p = if is_corrupt ls p then codes "lie" else codes "sent"

-- 30 pixels beside the second point, on the side of the first: columns are further apart, so no bar is there
abbrev pub before_bar : Point → Point → Point
before_bar a b = record { x = if nat_lt a.x b.x then b.x - 30 else b.x + 30; y = b.y }

-- where the frame of this number is sent, by the row of each frame; row k, where it is sent in none of them
abbrev pub departure : List Listed → List ℕ → ℕ → ℕ → ℕ → Point
departure ls rows k number from = place ls from (slice_index_or rows number k)

-- the arrow of a frame that process p is handed in row k comes from where it was sent
abbrev pub frame_arrow : List Listed → List ℕ → ℕ → ℕ → ℕ → ℕ → List ℕ
frame_arrow ls rows k p number from = stroke (arrow_class ls from) (departure ls rows k number from) (place ls p k)

-- bytes that no process sent come from the one that they name, as a lie
abbrev pub bytes_arrow : List Listed → ℕ → ℕ → ℕ → List ℕ
bytes_arrow ls k p from = stroke (codes "lie") (place ls from k) (place ls p k)

-- an arrow towards a point, which ends in the open before it
unfoldable pub lost_arrow : Point → Point → List ℕ
lost_arrow a b = stroke (codes "lost") a (before_bar a b) ++ dot (codes "gone") (before_bar a b) 3

-- the arrow of a frame that is lost in row k
abbrev pub loss_arrow : List Listed → List ℕ → ℕ → ℕ → ℕ → ℕ → List ℕ
loss_arrow ls rows k number from to = lost_arrow (departure ls rows k number from) (place ls to k)

-- the arrow of what process p is handed in row k
abbrev pub handed_arrow : List Listed → List ℕ → ℕ → ℕ → Handed → List ℕ
handed_arrow ls rows k p (Frame number from) = frame_arrow ls rows k p number from
handed_arrow ls rows k p (Bytes from) = bytes_arrow ls k p from
handed_arrow ls rows k p _ = []

-- the arrow of what happens in row k, where rows has the row of each frame
abbrev pub arrow : List Listed → List ℕ → ℕ → Happening → List ℕ
arrow ls rows k (Takes p handed first o) = handed_arrow ls rows k p handed
arrow ls rows k (Loses frame from to) = loss_arrow ls rows k frame from to
arrow ls rows k _ = []
