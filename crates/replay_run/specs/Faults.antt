-- Why there is no report, in the definitions' words.
use Rattle.std.specs.Prelude.{◌≡◌, Option, Some, None}
use Rattle.std.specs.Option.{option_map}
use Rattle.replay_defs.specs.Worlds as worlds
use Rattle.replay_defs.specs.Reports as plain
use Rattle.schedule_fields.specs.declared.fault.ScheduleFault.{ScheduleFault}
use Rattle.schedule_fields.specs.Faults.{fault_of}
use Rattle.replay_report.specs.Runs.{WorldFault}
use Rattle.replay_report.specs.Stops as stops
use Rattle.replay_run.specs.declared.fault.ReplayFault.{ReplayFault}
use Rattle.replay_run.specs.declared.fault.ReplayFault.TheVariants.{Schedule, NoSuchFrame, TooMuchSent}
use Rattle.replay_run.specs.declared.fault.Stop.{Stop}
use Rattle.replay_run.specs.declared.fault.Stop.TheVariants.{Fault, NoMemory}

-- why bytes have no report
abbrev pub fault : ReplayFault → plain.ReplayFault
fault (Schedule f) = plain.NoSchedule f
fault (NoSuchFrame event frame sent) = plain.Stops (worlds.NoSuchFrame event frame sent)
fault (TooMuchSent event bytes) = plain.Stops (worlds.TooMuchSent event bytes)

-- the fault with which a replay ends; none where memory ran out
abbrev pub fault_in : Stop → Option plain.ReplayFault
fault_in (Fault f) = Some (fault f)
fault_in NoMemory = None

-- the fault with which a run ends; none where memory ran out
abbrev pub fault_of_run : WorldFault → Option worlds.WorldFault
fault_of_run (stops.NoSuchFrame event frame sent) = Some (worlds.NoSuchFrame event frame sent)
fault_of_run (stops.TooMuchSent event bytes) = Some (worlds.TooMuchSent event bytes)
fault_of_run stops.NoMemory = None

-- the replay ends with the fault f of its run, which may be want of memory
abbrev pub IsOfRun : WorldFault → Stop → Type 0
IsOfRun f s = fault_in s ≡ option_map plain.Stops (fault_of_run f)

-- the replay ends with the fault f of the bytes, which may be want of memory
abbrev pub IsOfBytes : ScheduleFault → Stop → Type 0
IsOfBytes f s = fault_in s ≡ option_map plain.NoSchedule (fault_of f)
