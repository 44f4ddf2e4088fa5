-- What is assembled, beside the text of a schedule.
use Rattle.std.proofs.Common.{◌≡◌, List, ℕ, Result, Ok, Err, ap, subst, ◌∙◌}
use Rattle.byte_defs.specs.Reads.{Makes}
use Rattle.byte_defs.proofs.Fields.{IsBytes}
use Rattle.replay_defs.specs.Schedules.{Schedule, IsSchedule, schedule_bytes}
use Rattle.story_defs.specs.declared.StoryFault.{StoryFault}
use Rattle.story_defs.specs.Stories.{story_of}
use Rattle.story_defs.specs.Texts.{schedule_text}
use Rattle.story_laws.proofs.Wholes.{text_is_story}
use Rattle.story_reading.specs.declared.faults.AssembleFault.{AssembleFault}
use Rattle.story_reading.specs.Faults.{fault_of}

pub is_assembled : {X : Type 0} (view : X → List ℕ) (text : List ℕ) (r : Result X AssembleFault) (s : Schedule) → IsSchedule s
    → IsBytes (schedule_bytes s) → text ≡ schedule_text s → Makes fault_of view r (story_of text)
    → Makes fault_of view r (Ok (schedule_bytes s))
is_assembled view text r s fits bytes e made =
    subst (λ (read : Result (List ℕ) StoryFault). Makes fault_of view r read) (ap story_of e ∙ text_is_story s fits bytes) made
