-- A whole picture.
-- Names here (* for this crate alone):
--   rows: Row*, rows_in, rows_of, most_drawn*
--   processes: role*, name, genesis*
--   events: event_rule*, event_number*, event_name*, is_begun*, event_begin
--   the end: more_text*, fault_words*, stop_text*
--   all of it: frame_begin*, picture_begin*, begin_rows*, picture_end*, each_row, sent_rows*, background*, arrows*, cast*, foreground*,
--     below*, drawing*, picture_of*, picture
use Rattle.std.specs.Prelude.{ℕ, ◌+◌, ◌-◌, ◌==◌, Bool, if◌then◌else◌, List, [], ◌∷◌, ◌++◌, length, map, take, Option, Some, None, codes}
use Rattle.std.specs.List.{flat_map, list_any, enumerate_from}
use Rattle.std.specs.Fmt.{decimal}
use Rattle.replay_defs.specs.Schedules.{Listed, Header}
use Rattle.replay_defs.specs.Worlds.{WorldFault, NoSuchFrame, TooMuchSent}
use Rattle.trace_defs.specs.Happenings.{Happening}
use Rattle.picture_defs.specs.Elements.{text_of, stroke, text_at, spaced}
use Rattle.picture_defs.specs.Styles.{style, heads}
use Rattle.picture_defs.specs.Layout.{column, row, width, height}
use Rattle.picture_defs.specs.Drawing.{life, bars, sent_in, arrow}
use Rattle.picture_defs.specs.Legends.{legend}
use Rattle.picture_defs.specs.Labels.{label, span}

-- ---- rows

-- what happens, and before it the number of its event
abbrev pub Row : Type 0
Row = ℕ × Happening

-- what happens in the event of this number
abbrev pub rows_in : ℕ → List Happening → List Row
rows_in n reported = map (λ x. (n, x)) reported

-- all that happens, in order
abbrev pub rows_of : List (List Happening) → List Row
rows_of reported = flat_map (λ e. rows_in e.0 e.1) (enumerate_from 0 reported)

-- the most rows that are drawn
unfoldable pub most_drawn : ℕ
most_drawn = 2000

-- ---- processes

-- the word "corrupt" beside a corrupt process's number
abbrev pub role : Bool → List ℕ
role corrupt = if corrupt then span (codes "bad") (codes "corrupt") else []

-- the number of a process, over its column
abbrev pub name : List Listed → Listed → List ℕ
name ls l = text_at (codes "title") (record { x = column ls l.process - 4; y = 22 }) (decimal l.process ++ role l.corrupt)

-- the members of view 0
abbrev pub genesis : List ℕ → List ℕ
genesis members = text_at (codes "view") (record { x = 90; y = 42 }) (codes "view 0:" ++ spaced members)

-- ---- events

-- a rule over row k
abbrev pub event_rule : List Listed → ℕ → List ℕ
event_rule ls k = stroke (codes "rule") (record { x = 8; y = row k - 8 }) (record { x = width ls; y = row k - 8 })

-- the number of an event beside row k
abbrev pub event_number : ℕ → ℕ → List ℕ
event_number k n = text_at (codes "event") (record { x = 8; y = row k + 4 }) (text_of (codes "event " ∷ decimal n ∷ []))

-- an event at row k
abbrev pub event_name : List Listed → ℕ → ℕ → List ℕ
event_name ls k n = event_rule ls k ++ event_number k n

-- one of these rows before row k is of event n
abbrev pub is_begun : List Row → ℕ → ℕ → Bool
is_begun rows k n = list_any (λ r. r.0 == n) (take k rows)

-- an event has its number at the first row that is of it
abbrev pub event_begin : List Listed → List Row → ℕ → ℕ → List ℕ
event_begin ls rows k n = if is_begun rows k n then [] else event_name ls k n

-- ---- the end

-- the text below the n rows of how many things are left out, where any are
abbrev pub more_text : ℕ → ℕ → List ℕ
more_text n more =
    if more == 0 then []
    else text_at (codes "bad") (record { x = 90; y = row n + 18 })
    (text_of (codes "The picture ends here. Things left out: " ∷ decimal more ∷ []))

-- why a run stops at an event
abbrev pub fault_words : WorldFault → List ℕ
fault_words (NoSuchFrame event frame sent) =
    text_of (codes "The run stops at event " ∷ decimal event ∷ codes ": frame " ∷ decimal frame ∷ codes " is not sent yet" ∷ [])
fault_words (TooMuchSent event bytes) =
    text_of (codes "The run stops at event " ∷ decimal event ∷ codes ": the frames have too many bytes" ∷ [])

-- why the run stops below the n rows, where an event stops it
abbrev pub stop_text : ℕ → Option WorldFault → List ℕ
stop_text n None = []
stop_text n (Some fault) = text_at (codes "bad") (record { x = 90; y = row n + 36 }) (fault_words fault)

-- ---- all of it

-- the element that holds a picture of this size, and its title
unfoldable pub frame_begin : ℕ → ℕ → List ℕ
frame_begin wide high = text_of (
    codes "<svg xmlns='http://www.w3.org/2000/svg' viewBox='0 0 " ∷ decimal wide ∷ codes " " ∷ decimal high
    ∷ codes "' width='" ∷ decimal wide ∷ codes "' height='" ∷ decimal high
    ∷ codes "' role='img' xml:space='preserve'>\n<title>A run, process by process</title>\n" ∷ [])

-- the beginning of a picture of this size, with its colours and the heads of its arrows
abbrev pub picture_begin : ℕ → ℕ → List ℕ
picture_begin wide high = frame_begin wide high ++ (style ++ heads)

-- the beginning of a picture of n rows
abbrev pub begin_rows : List Listed → ℕ → List ℕ
begin_rows ls n = picture_begin (width ls) (height n)

-- the end of that element
abbrev pub picture_end : List ℕ
picture_end = codes "</svg>\n"

-- what is drawn of each row, by the row's number, its event and what happens in it
abbrev pub each_row : (ℕ → ℕ → Happening → List ℕ) → List Row → List ℕ
each_row draw rows = flat_map (λ r. draw r.0 r.1.0 r.1.1) (enumerate_from 0 rows)

-- the row in which each frame is sent, by the frames' numbers
abbrev pub sent_rows : List Row → List ℕ
sent_rows rows = each_row (λ k n what. sent_in k what) rows

-- what is drawn first, under all else: events, lives and views
abbrev pub background : List Listed → List Row → List ℕ
background ls rows =
    each_row (λ k n what. event_begin ls rows k n) rows
    ++ (flat_map (life ls (length rows)) ls ++ each_row (λ k n what. bars ls (length rows) k what) rows)

-- the arrows of all frames
abbrev pub arrows : List Listed → List Row → List ℕ
arrows ls rows = each_row (λ k n what. arrow ls (sent_rows rows) k what) rows

-- the processes, and the members of view 0
abbrev pub cast : List Listed → List ℕ → List ℕ
cast ls members = flat_map (name ls) ls ++ genesis members

-- what is drawn over the background: arrows, marks and texts, and the names of the processes
abbrev pub foreground : List Listed → List ℕ → List Row → List ℕ
foreground ls members rows = arrows ls rows ++ (each_row (λ k n what. label ls k what) rows ++ cast ls members)

-- the end below n rows: what is left out, why the run stops, and the legend
abbrev pub below : ℕ → ℕ → Option WorldFault → List ℕ
below n more stop = more_text n more ++ (stop_text n stop ++ (legend n ++ picture_end))

-- the picture of these rows, of all that there are
abbrev pub drawing : List Listed → List ℕ → List Row → ℕ → Option WorldFault → List ℕ
drawing ls members rows all stop =
    begin_rows ls (length rows) ++ (background ls rows ++ (foreground ls members rows ++ below (length rows) (all - length rows) stop))

-- the picture of all rows, as far as they are drawn
abbrev pub picture_of : List Listed → List ℕ → List Row → Option WorldFault → List ℕ
picture_of ls members rows stop = drawing ls members (take most_drawn rows) (length rows) stop

-- the picture of what happens in each event, and of why the run stops, where an event stops it
abbrev pub picture : Header → List (List Happening) → Option WorldFault → List ℕ
picture h reported stop = picture_of h.processes h.genesis (rows_of reported) stop
