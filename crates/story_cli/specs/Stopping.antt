-- Why a run stops that reads no schedule.
use Rattle.std.specs.Prelude.{Option, Some, None}
use Rattle.replay_defs.specs.declared.Fault.{Fault}
use Rattle.story_cli.specs.declared.stops.Stop.{Stop}
use Rattle.story_cli.specs.declared.stops.Stop.TheVariants.{NoMemory, Schedule}

-- the fault of the bytes, or want of memory
abbrev pub stop_of : Option Fault → Stop
stop_of None = NoMemory
stop_of (Some fault) = Schedule fault
