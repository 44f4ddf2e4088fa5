-- Faults of a text, as plain data.
use Rattle.std.specs.Prelude.{Option, Some, None}
use Rattle.sig_scheme.specs.Keys.{key_bytes}
use Rattle.kit_defs.specs.KitReading as plain
use Rattle.kit_reading.specs.declared.faults.KitFault.{KitFault}
use Rattle.kit_reading.specs.declared.faults.KitFault.TheVariants.{Line, Repeated, Missing, KeyMismatch, NoMemory}

-- the fault of the text, where it is one
abbrev pub fault_of : KitFault → Option plain.KitFault
fault_of (Line line) = Some (plain.Line line)
fault_of (Repeated line) = Some (plain.Repeated line)
fault_of (Missing line) = Some (plain.Missing line)
fault_of (KeyMismatch line made listed) = Some (plain.KeyMismatch line (key_bytes made) (key_bytes listed))
fault_of NoMemory = None
