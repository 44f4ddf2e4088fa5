-- What a story spells is read as a schedule.
use Rattle.std.proofs.Common.{◌≡◌, ℕ, List, Result, Ok, Err, refl, ap, ◌∙◌}
use Rattle.std.specs.Prelude.{IfSome, IsErrOf}
use Rattle.replay_defs.specs.declared.Fault.{Fault}
use Rattle.replay_defs.specs.Schedules.{IsSchedule, Schedule, schedule_bytes}
use Rattle.schedule_fields.specs.declared.fault.ScheduleFault.{ScheduleFault}
use Rattle.schedule_fields.specs.declared.fault.ScheduleFault.TheVariants.{Short, Magic, Scheme, Roster, Key, Tag, Field, TooLong, TooMany, NoMemory}
use Rattle.story_defs.specs.declared.StoryFault.{StoryFault}
use Rattle.story_cli.specs.declared.stops.Stop.{Stop}
use Rattle.story_cli.specs.declared.stops.Stop.TheVariants as stops
use Rattle.schedule_fields.specs.Faults.{fault_of}
use Rattle.story_cli.specs.Stopping.{stop_of}
use Rattle.story_cli.specs.Top.{Assembles, Shows, bytes_in}

-- reading answers a schedule, and this fault
abbrev Faulty : Schedule → Fault → Type 0
Faulty s f = (let read : Result Schedule Fault = Ok s in read) ≡ Err f

never : (s : Schedule) (f : Fault) → Faulty s f → ⊥
never s f is = absurd cc

-- where the bytes are those of a schedule, nothing but want of memory keeps it from being read
pub memory_alone : (e : ScheduleFault) (s : Schedule) → IfSome (fault_of e) (Faulty s) → e ≡ NoMemory
memory_alone (Short place) s is = absurd (never s _ is)
memory_alone (Magic place) s is = absurd (never s _ is)
memory_alone (Scheme place) s is = absurd (never s _ is)
memory_alone (Roster place) s is = absurd (never s _ is)
memory_alone (Key place) s is = absurd (never s _ is)
memory_alone (Tag place) s is = absurd (never s _ is)
memory_alone (Field place) s is = absurd (never s _ is)
memory_alone (TooLong place) s is = absurd (never s _ is)
memory_alone (TooMany place) s is = absurd (never s _ is)
memory_alone NoMemory s is = refl

-- so what stops the reading of a story's bytes is want of memory
pub kept_by_memory : (text bytes read : List ℕ) (e : ScheduleFault) (stop : Stop) → Assembles text bytes → read ≡ bytes
    → ((s : Schedule) → IsSchedule s → read ≡ schedule_bytes s → IfSome (fault_of e) (Faulty s)) → stop ≡ stop_of (fault_of e)
    → stop ≡ stops.NoMemory
kept_by_memory text bytes read e stop made same only is =
    is ∙ ap (λ (f : ScheduleFault). stop_of (fault_of f))
    (memory_alone e made.schedule (only made.schedule made.fits (same ∙ made.spelled)))

pub no_story_fault : {T : Type 0} (stop : Stop) (fault : StoryFault) → stop ≡ stops.NoMemory → IsErrOf {T = T} (Err stop) (stops.Story fault) → ⊥
no_story_fault stop fault is said = apart cc
  where
    apart : stops.Story fault ≡ stops.NoMemory → ⊥
    apart so = absurd cc

-- ---- an input that is a schedule, or the story of one

-- what the run of the schedule shows is what the input shows
pub shown_so : (text_of : Schedule → List ℕ) (input text : List ℕ) (s : Schedule) → IsSchedule s → bytes_in input ≡ Ok (schedule_bytes s)
    → text ≡ text_of s → Shows text_of input text
shown_so text_of input text s fits given is = record {
  bytes = schedule_bytes s;
  given = given;
  shown = record { schedule = s; fits = fits; spelled = refl; reported = is };
}
