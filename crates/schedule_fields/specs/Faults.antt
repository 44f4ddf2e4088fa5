-- The faults of the code, as plain data.
use Rattle.std.specs.Prelude.{◌≡◌, Option, Some, None}
use Rattle.replay_defs.specs.declared.FaultKind.TheVariants as kinds
use Rattle.replay_defs.specs.declared.Fault.{Fault}
use Rattle.replay_defs.specs.declared.Found as found
use Rattle.schedule_fields.specs.declared.fault.ReadError.{ReadError}
use Rattle.schedule_fields.specs.declared.fault.ReadError.TheVariants as reads
use Rattle.schedule_fields.specs.declared.fault.ScheduleFault.{ScheduleFault}
use Rattle.schedule_fields.specs.declared.fault.ScheduleFault.TheVariants.{Short, Magic, Scheme, Roster, Key, Tag, Field, TooLong, TooMany, NoMemory}

-- the fault of the bytes, where it is one
abbrev pub fault_of : ScheduleFault → Option Fault
fault_of (Short place) = Some (record { kind = kinds.Short; place = place })
fault_of (Magic place) = Some (record { kind = kinds.Magic; place = place })
fault_of (Scheme place) = Some (record { kind = kinds.Scheme; place = place })
fault_of (Roster place) = Some (record { kind = kinds.Roster; place = place })
fault_of (Key place) = Some (record { kind = kinds.Key; place = place })
fault_of (Tag place) = Some (record { kind = kinds.Tag; place = place })
fault_of (Field place) = Some (record { kind = kinds.Field; place = place })
fault_of (TooLong place) = Some (record { kind = kinds.TooLong; place = place })
fault_of (TooMany place) = Some (record { kind = kinds.TooMany; place = place })
fault_of NoMemory = None

-- the code's spelling of a fault
abbrev pub IsFault : Fault → ScheduleFault → Type 0
IsFault f e = fault_of e ≡ Some f

-- what was found in the bytes, where anything was
abbrev pub found_of : ReadError → Option found.Found
found_of reads.NoMemory = None
found_of (reads.Found f) = Some f
