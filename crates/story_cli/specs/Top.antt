-- What the program answers.
--
-- A stream says what it holds where its `left` or `written` is `Some bytes`, as streams in memory do. Standard input, output and error do
-- not: theirs is `None`. Of a stream that does not, `Consumes`, `IsAtEnd`, `Appends` and `AppendsPrefix` hold whatever the bytes.
-- Names here (* for this crate alone):
--   the words: command_word, Asks, AskAny
--   the input: begins_as_schedule*, takes_as_story, bytes_in*
--   what is made of an input: Assembles*, WritesOf*, IsStoryOf*, Shows*, trace_text*, Traces*, picture_text*, Draws*, MakesOf*, Has*
--   the input and the output, by what a source had left before and has left now, and what a sink held before and holds now: Made*,
--     MadeInPart*, NoStory, NoSchedule
--   on the way: Given*, IsNoStory*, IsNoSchedule*
use Rattle.std.specs.Prelude.{◌≡◌, ℕ, Bool, true, false, not, nat_eq, if◌then◌else◌, List, [], ◌∷◌, map, Option, Result, Ok, Err, IsOk, codes, String, string_bytes}
use Rattle.std.specs.List.{flat_map, starts_with}
use Rattle.std.specs.Io.KnownBytes.{Appends, Consumes, IsAtEnd}
use Rattle.std.specs.declared.alloc.Global.{Global}
use Rattle.rp_base.specs.Streams.{AppendsPrefix, WritesLine}
use Rattle.text_defs.specs.Words.{line_text}
use Rattle.replay_defs.specs.declared.Fault.{Fault}
use Rattle.replay_defs.specs.Schedules as schedules
use Rattle.replay_defs.specs.Schedules.{IsSchedule, schedule_bytes}
use Rattle.replay_defs.specs.Reading.{schedule_of}
use Rattle.story_defs.specs.declared.StoryFault.{StoryFault}
use Rattle.story_defs.specs.Stories.{story_of}
use Rattle.story_defs.specs.Texts.{schedule_text}
use Rattle.reported_defs.specs.Reported.{reported_of, stop_of, trace_lines}
use Rattle.picture_defs.specs.Pictures.{picture}
use Rattle.story_cli.specs.declared.stops.Stop.TheVariants.{Story, Schedule}
use Rattle.story_cli.specs.declared.commands.Command.{Command}
use Rattle.story_cli.specs.declared.commands.Command.TheVariants.{Assemble, Text, Run, Draw}
use Rattle.story_cli.specs.Messages.{line_of}

-- ---- the words

abbrev pub command_word : Command → List ℕ
command_word Assemble = codes "assemble"
command_word Text = codes "text"
command_word Run = codes "run"
command_word Draw = codes "draw"

-- the words are those of this command
abbrev pub Asks : List (String Global) → Command → Type 0
Asks words command = map string_bytes words ≡ command_word command ∷ []

-- the words are those of some command
abbrev pub AskAny : List (String Global) → Type 0
AskAny words = (command : Command) × Asks words command

-- ---- the input

-- the input begins as a schedule does
unfoldable pub begins_as_schedule : List ℕ → Bool
begins_as_schedule input = starts_with nat_eq input (codes "RPS")

-- the command takes the input as a story, and not as a schedule
abbrev pub takes_as_story : Command → List ℕ → Bool
takes_as_story Assemble input = true
takes_as_story Text input = false
takes_as_story Run input = not (begins_as_schedule input)
takes_as_story Draw input = not (begins_as_schedule input)

-- the bytes of the schedule that an input is, or that it spells as a story
abbrev pub bytes_in : List ℕ → Result (List ℕ) StoryFault
bytes_in input = if begins_as_schedule input then Ok input else story_of input

-- ---- what is made of an input

-- The text is a story, and these are the bytes of its schedule.
pub record Assembles (text bytes : List ℕ) : Type 0 where
  pub schedule : schedules.Schedule
  pub fits : IsSchedule schedule
  pub spelled : bytes ≡ schedule_bytes schedule
  pub assembled : story_of text ≡ Ok bytes

-- The bytes are a schedule, and this is its text.
pub record WritesOf (text_of : schedules.Schedule → List ℕ) (bytes text : List ℕ) : Type 0 where
  pub schedule : schedules.Schedule
  pub fits : IsSchedule schedule
  pub spelled : bytes ≡ schedule_bytes schedule
  pub reported : text ≡ text_of schedule

-- the bytes are a schedule, and this is its story
abbrev pub IsStoryOf : List ℕ → List ℕ → Type 0
IsStoryOf bytes text = WritesOf schedule_text bytes text

-- The input is a schedule or the story of one, and this is the text that shows it.
pub record Shows (text_of : schedules.Schedule → List ℕ) (input text : List ℕ) : Type 0 where
  pub bytes : List ℕ
  pub given : bytes_in input ≡ Ok bytes
  pub shown : WritesOf text_of bytes text

-- the trace of a schedule's run
abbrev pub trace_text : schedules.Schedule → List ℕ
trace_text schedule = flat_map line_text (trace_lines schedule)

-- the input is a schedule or the story of one, and this is the trace of its run
abbrev pub Traces : List ℕ → List ℕ → Type 0
Traces input text = Shows trace_text input text

-- the picture of a schedule's run
abbrev pub picture_text : schedules.Schedule → List ℕ
picture_text schedule = picture schedule.header (reported_of schedule) (stop_of schedule)

-- the input is a schedule or the story of one, and this is the picture of its run
abbrev pub Draws : List ℕ → List ℕ → Type 0
Draws input text = Shows picture_text input text

-- what the command makes of an input
abbrev pub MakesOf : Command → List ℕ → List ℕ → Type 0
MakesOf Assemble input output = Assembles input output
MakesOf Text input output = IsStoryOf input output
MakesOf Run input output = Traces input output
MakesOf Draw input output = Draws input output

-- the input has what the command needs: it is a story where it is taken as one, and else a schedule
pub record Has (command : Command) (input : List ℕ) : Type 0 where
  pub story : takes_as_story command input ≡ true → IsOk (story_of input)
  pub schedule : takes_as_story command input ≡ false → IsOk (schedule_of input)

-- ---- the input and the output, by what a source had left before and has left now, and what a sink held before and holds now

-- The input was read to its end, and what the command makes of it was written, and nothing else.
pub record Made (command : Command) (before now old new : Option (List ℕ)) : Type 0 where
  pub input : List ℕ
  pub taken : Consumes before now input
  pub ended : IsAtEnd now
  pub output : List ℕ
  pub makes : MakesOf command input output
  pub written : Appends old new output

-- a prefix of it was written, and nothing else
pub record MadeInPart (command : Command) (before now old new : Option (List ℕ)) : Type 0 where
  pub input : List ℕ
  pub taken : Consumes before now input
  pub ended : IsAtEnd now
  pub output : List ℕ
  pub makes : MakesOf command input output
  pub written : AppendsPrefix old new output

-- The input was read to its end and taken as a story, and it is none. What was expected, and in which line, was written to standard error,
-- or the front of that where a write failed: the counts of its faults, before and now, say which.
pub record NoStory (command : Command) (before now old new : Option (List ℕ)) (faults faults_now : ℕ) : Type 0 where
  pub input : List ℕ
  pub taken : Consumes before now input
  pub ended : IsAtEnd now
  pub as_story : takes_as_story command input ≡ true
  pub fault : StoryFault
  pub none : story_of input ≡ Err fault
  pub line : WritesLine (line_of (Story fault)) old new faults faults_now

-- The input was read to its end and taken as a schedule, and it is none. Its fault was written to standard error, or the front of that where
-- a write failed.
pub record NoSchedule (command : Command) (before now old new : Option (List ℕ)) (faults faults_now : ℕ) : Type 0 where
  pub input : List ℕ
  pub taken : Consumes before now input
  pub ended : IsAtEnd now
  pub as_schedule : takes_as_story command input ≡ false
  pub fault : Fault
  pub none : schedule_of input ≡ Err fault
  pub line : WritesLine (line_of (Schedule fault)) old new faults faults_now

-- ---- on the way

-- the input was read to its end, and the command makes this of it
pub record Given (command : Command) (before now : Option (List ℕ)) (output : List ℕ) : Type 0 where
  pub input : List ℕ
  pub taken : Consumes before now input
  pub ended : IsAtEnd now
  pub makes : MakesOf command input output

-- the command takes the input, which was read to its end, as a story, and it has this fault
pub record IsNoStory (command : Command) (before now : Option (List ℕ)) (fault : StoryFault) : Type 0 where
  pub input : List ℕ
  pub as_story : takes_as_story command input ≡ true
  pub taken : Consumes before now input
  pub ended : IsAtEnd now
  pub none : story_of input ≡ Err fault

-- the command takes the input, which was read to its end, as a schedule, and it has this fault
pub record IsNoSchedule (command : Command) (before now : Option (List ℕ)) (fault : Fault) : Type 0 where
  pub input : List ℕ
  pub as_schedule : takes_as_story command input ≡ false
  pub taken : Consumes before now input
  pub ended : IsAtEnd now
  pub none : schedule_of input ≡ Err fault
