-- That the text of a schedule assembles to it, as a law of the definitions.
use Rattle.std.specs.Prelude.{◌≡◌, Ok}
use Rattle.byte_defs.proofs.Fields.{IsBytes}
use Rattle.replay_defs.specs.Schedules.{Schedule, IsSchedule, schedule_bytes}
use Rattle.story_defs.specs.Stories.{story_of}
use Rattle.story_defs.specs.Texts.{schedule_text}

-- the text of a schedule in its ranges assembles to its bytes
abbrev pub TextIsStory : Type 0
TextIsStory = (s : Schedule) → IsSchedule s → IsBytes (schedule_bytes s) → story_of (schedule_text s) ≡ Ok (schedule_bytes s)
