-- What the calls of the page answer, for a caller that gives an input and room for the answer in memory.
use Rattle.std.specs.Prelude.{◌≡◌, ℕ, Bool, List, [], length, min, take, Err, Some}
use Rattle.rp_base.specs.Streams.{AppendsPrefix}
use Rattle.replay_defs.specs.declared.Fault.{Fault}
use Rattle.replay_defs.specs.Reading.{schedule_of}
use Rattle.replay_defs.specs.Reports.{ReplayFault, report_of}
use Rattle.story_defs.specs.declared.StoryFault.{StoryFault}
use Rattle.story_defs.specs.Stories.{story_of}
use Rattle.story_cli.specs.declared.stops.Stop.TheVariants.{Story, Schedule}
use Rattle.story_cli.specs.declared.commands.Command.{Command}
use Rattle.story_cli.specs.declared.commands.Command.TheVariants.{Assemble, Text, Run, Draw}
use Rattle.story_cli.specs.Messages.{line_of}
use Rattle.replay_words.specs.Answers.{Runs, Headline, family, report_of_run, stop_line}

-- the number by which the page asks for a command
abbrev pub number_of : Command → ℕ
number_of Assemble = 0
number_of Text = 1
number_of Run = 2
number_of Draw = 3

-- As much of the bytes as the room holds is at its front, and the count is that of all of them.
pub record LiesIn (bytes room : List ℕ) (count : ℕ) : Type 0 where
  pub all : count ≡ length bytes
  pub front : take (min count (length room)) room ≡ take (min count (length room)) bytes

-- bytes that `Holds` is true of lie in the room
pub record Answers (Holds : List ℕ → Type 0) (room : List ℕ) (count : ℕ) : Type 0 where
  pub bytes : List ℕ
  pub holds : Holds bytes
  pub lies : LiesIn bytes room count

-- the bytes are the line, or a prefix of it where no memory was left
abbrev pub Line : List ℕ → List ℕ → Type 0
Line line bytes = AppendsPrefix (Some []) (Some bytes) line

-- The input is no story, and the bytes are the line that says why.
pub record IsNoStory (input bytes : List ℕ) : Type 0 where
  pub fault : StoryFault
  pub none : story_of input ≡ Err fault
  pub reported : Line (line_of (Story fault)) bytes

-- The input is no schedule, and the bytes are the line that says why.
pub record IsNoSchedule (input bytes : List ℕ) : Type 0 where
  pub fault : Fault
  pub none : schedule_of input ≡ Err fault
  pub reported : Line (line_of (Schedule fault)) bytes

-- The input runs, the bytes are its report, long or short, and the headline holds of its family.
pub record IsReport (short : Bool) (input bytes : List ℕ) : Type 0 where
  pub run : Runs input
  pub report : bytes ≡ report_of_run short run
  pub headline : Headline (family run)

-- The input has no report, and the bytes are the line that says why.
pub record HasNoReport (input bytes : List ℕ) : Type 0 where
  pub fault : ReplayFault
  pub none : (short : Bool) → report_of short input ≡ Err fault
  pub reported : Line (stop_line fault) bytes
