-- What a text assembles to: the bytes of its lines, where they are a schedule; else the first line that has a fault, and what
-- was expected there. A line has a fault where it is none that may follow, or where the first fault of the schedule's bytes is in its
-- own.
-- Names here (* for this crate alone):
--   lines, one after another: Draft, no_lines, draft_bytes, wanted, Addition, listed_by, genesis_by, event_of_word, group_of_word*,
--     listing_of_word, said_by_word, said_by_plain, said_by, marked*, listed_size*, pushed*, CanAdd, added
--   the whole text: Taken, take_lines, line_at, expected_by*, fault_at_stop, fault_in_line*, judged, judgement, story_of
use Rattle.std.specs.Prelude.{ℕ, ◌+◌, ◌-◌, ◌<◌, Bool, ◌==◌, nat_lt, nat_le, if◌then◌else◌, List, [], ◌∷◌, ◌++◌, length, Option, Some, None, codes, Result, Ok, Err}
use Rattle.std.specs.Option.{ok_or}
use Rattle.byte_defs.specs.Equality.{same_bytes}
use Rattle.byte_defs.specs.Fields.{◌>>=◌}
use Rattle.text_defs.specs.Words.{words_of, parts_of}
use Rattle.replay_defs.specs.declared.Fault.{Fault}
use Rattle.replay_defs.specs.declared.FaultKind.{FaultKind}
use Rattle.replay_defs.specs.declared.FaultKind.TheVariants as faults
use Rattle.replay_defs.specs.declared.Scheme.{Scheme}
use Rattle.replay_defs.specs.declared.Scheme.TheVariants as schemes
use Rattle.replay_defs.specs.Schedules.{Schedule}
use Rattle.replay_defs.specs.Reading.{schedule_of}
use Rattle.story_defs.specs.declared.Expected.{Expected}
use Rattle.story_defs.specs.declared.Expected.TheVariants as expected
use Rattle.story_defs.specs.declared.StoryFault.{StoryFault}
use Rattle.story_defs.specs.declared.Mark.{Mark}
use Rattle.story_defs.specs.declared.Stage.{Stage}
use Rattle.story_defs.specs.declared.Stage.TheVariants.{Opening, Listing, Running}
use Rattle.story_defs.specs.PlainLines.{plain_line}
use Rattle.story_defs.specs.Words.{Words, next_at}
use Rattle.story_defs.specs.Lines.{group_at, listed_at, genesis_at, kind_of_word, event_by}

-- ---- lines, one after another

-- what was read of a story so far
pub record Draft : Type 0 where
  -- which lines may follow
  pub stage : Stage
  pub scheme : Scheme
  -- the bytes up to the group's name
  pub front : List ℕ
  -- how many processes are listed
  pub count : ℕ
  -- the bytes after that number
  pub behind : List ℕ
  -- the lines that these bytes are of
  pub marks : List Mark

-- nothing was read yet
abbrev pub no_lines : Draft
no_lines = record { stage = Opening; scheme = schemes.Plain; front = []; count = 0; behind = []; marks = [] }

-- the bytes of the lines
abbrev pub draft_bytes : Draft → List ℕ
draft_bytes d = d.front ++ d.count ∷ d.behind

-- what may follow, where there is no such line
abbrev pub wanted : Stage → Expected
wanted Opening = expected.Group
wanted Listing = expected.Genesis
wanted Running = expected.Event

-- what a line adds to those so far
pub data Addition : Type 0 where
  -- nothing: the line is blank
  Nothing : Addition
  -- the scheme, and the bytes up to the group's name
  Group : (scheme : Scheme) (bytes : List ℕ) → Addition
  -- the bytes of a process
  Process : (bytes : List ℕ) → Addition
  -- the bytes of the members of the first view
  Genesis : (bytes : List ℕ) → Addition
  -- the bytes of an event of this kind
  Event : (kind : Expected) (bytes : List ℕ) → Addition

-- a process; there are at most 64
abbrev pub listed_by : Draft → Words → Result Addition Expected
listed_by d words = if nat_le 64 d.count then Err expected.Genesis else (listed_at d.scheme words >>= λ bytes. Ok (Process bytes))

-- the first view, after at least one process
abbrev pub genesis_by : Draft → Words → Result Addition Expected
genesis_by d words = if d.count == 0 then Err expected.Process else (genesis_at words >>= λ bytes. Ok (Genesis bytes))

-- an event by the word of its kind
abbrev pub event_of_word : List ℕ → Words → Result Addition Expected
event_of_word word words = ok_or (kind_of_word word) expected.Event >>= λ kind. event_by kind words >>= λ bytes. Ok (Event kind bytes)

-- the group
abbrev pub group_of_word : List ℕ → Words → Result Addition Expected
group_of_word word words = if same_bytes word (codes "group") then (group_at words >>= λ group. Ok (Group group.0 group.1))
    else Err expected.Group

-- a process or the first view
abbrev pub listing_of_word : Draft → List ℕ → Words → Result Addition Expected
listing_of_word d word words =
    if same_bytes word (codes "process") then listed_by d words else
    (if same_bytes word (codes "genesis") then genesis_by d words else Err expected.Genesis)

-- by the first word of a line
abbrev pub said_by_word : Draft → List ℕ → Words → Stage → Result Addition Expected
said_by_word d word words Opening = group_of_word word words
said_by_word d word words Listing = listing_of_word d word words
said_by_word d word words Running = event_of_word word words

-- what a plain line adds
unfoldable pub said_by_plain : Draft → List ℕ → Result Addition Expected
said_by_plain d line =
    if length line == 0 then Ok Nothing else (next_at (wanted d.stage) (words_of line) >>= λ next. said_by_word d next.0 next.1 d.stage)

-- what a line adds
unfoldable pub said_by : Draft → List ℕ → Result Addition Expected
said_by d line = plain_line line >>= λ plain. said_by_plain d plain

-- a line of this number is marked
abbrev pub marked : ℕ → Draft → Expected → ℕ → List Mark
marked n d x size = d.marks ++ record { line = n; expected = x; size = size } ∷ []

-- how many bytes the line of a process gives: the number of processes belongs to the first of them
abbrev pub listed_size : Draft → List ℕ → ℕ
listed_size d bytes = if d.count == 0 then length bytes + 1 else length bytes

-- with bytes of a line of this number after those so far
abbrev pub pushed : ℕ → Draft → Expected → ℕ → List ℕ → Draft
pushed n d x size bytes = record d { behind = d.behind ++ bytes; marks = marked n d x size }

-- what a line adds has its room: there are at most 64 processes
abbrev pub CanAdd : Draft → Addition → Type 0
CanAdd d (Process bytes) = d.count < 64
CanAdd d _ = Unit {0}

-- with what the line of this number adds
abbrev pub added : ℕ → Draft → Addition → Draft
added n d Nothing = d
added n d (Group scheme bytes) =
    record { stage = Listing; scheme = scheme; front = bytes; count = 0; behind = []; marks = marked n d expected.Group (length bytes) }
added n d (Process bytes) = record (pushed n d expected.Process (listed_size d bytes) bytes) { count = d.count + 1 }
added n d (Genesis bytes) = record (pushed n d expected.Genesis (length bytes) bytes) { stage = Running }
added n d (Event kind bytes) = pushed n d kind (length bytes) bytes

-- ---- the whole text

-- The lines that were taken, up to the first that may not follow or to the end.
pub record Taken : Type 0 where
  pub draft : Draft
  -- the number of that line, or of the one after the last
  pub line : ℕ
  -- what was expected in that line; None at the end
  pub stop : Option Expected

-- these lines, from the one with the number n on
unfoldable pub take_lines : ℕ → Draft → List (List ℕ) → Taken
take_lines n d [] = record { draft = d; line = n; stop = None }
take_lines n d (line ∷ lines) = elim (said_by d line) [
  | Ok a ↦ take_lines (n + 1) (added n d a) lines
  | Err x ↦ record { draft = d; line = n; stop = Some x }
]

-- the line in whose bytes this place is, if there is one
unfoldable pub line_at : ℕ → List Mark → Option Mark
line_at place [] = None
line_at place (m ∷ marks) = if nat_lt place m.size then Some m else line_at (place - m.size) marks

-- what was expected in a line whose bytes have a fault of this kind
abbrev pub expected_by : FaultKind → Expected → Expected
expected_by faults.TooMany x = expected.Steps
expected_by faults.TooLong x = expected.Size
expected_by _ x = x

-- where the lines stop, or what was expected after the last one
abbrev pub fault_at_stop : Taken → StoryFault
fault_at_stop taken = elim taken.stop [
  | None ↦ record { line = taken.line - 1; expected = wanted taken.draft.stage }
  | Some x ↦ record { line = taken.line; expected = x }
]

-- the fault of the bytes in their line; where it is in none, the lines stop before the schedule does
abbrev pub fault_in_line : Taken → FaultKind → Option Mark → StoryFault
fault_in_line taken kind None = fault_at_stop taken
fault_in_line taken kind (Some m) = record { line = m.line; expected = expected_by kind m.expected }

-- the bytes, where they are a schedule and no line stops
abbrev pub judged : Taken → Result Schedule Fault → Result (List ℕ) StoryFault
judged taken (Err fault) = Err (fault_in_line taken fault.kind (line_at fault.place taken.draft.marks))
judged taken (Ok s) = elim taken.stop [ None ↦ Ok (draft_bytes taken.draft) | Some x ↦ Err (fault_at_stop taken) ]

-- what was taken, with its bytes read
abbrev pub judgement : Taken → Result (List ℕ) StoryFault
judgement taken = judged taken (schedule_of (draft_bytes taken.draft))

-- the bytes of the schedule that the text spells, or its first fault
unfoldable pub story_of : List ℕ → Result (List ℕ) StoryFault
story_of text = judgement (take_lines 1 no_lines (parts_of text))
