-- A kit that is read from the front of an input, line by line.
use Rattle.std.specs.Prelude.{◌≡◌, ◌⊎◌, ℕ, ◌+◌, ◌<◌, List, ◌++◌, length, Option, Some, None, Ok, Err}
use Rattle.std.specs.Io.KnownBytes.{IsAtEnd}
use Rattle.kit_defs.specs.Kits as plain_kits
use Rattle.kit_defs.specs.KitReading as plain
use Rattle.kit_defs.specs.KitReading.{most_line_bytes}
use Rattle.input_defs.specs.Lines.{line_within}
use Rattle.input_defs.specs.Fronts.{front_of}
use Rattle.line_input.specs.Taking.{ReadOn, Taken}
use Rattle.line_input.specs.declared.faults.InputFault.{InputFault}
use Rattle.line_input.specs.declared.faults.InputFault.TheVariants as inputs
use Rattle.kit_reading.specs.declared.faults.KitFault.{KitFault}
use Rattle.kit_reading.specs.declared.faults.KitFault.TheVariants as faults
use Rattle.kit_reading.specs.declared.fronts.FrontFault.{FrontFault}
use Rattle.kit_reading.specs.declared.fronts.FrontFault.TheVariants.{Read, Kit}
use Rattle.kit_reading.specs.Faults.{fault_of}

-- ---- faults

-- the fault of the lines, where it is one
abbrev pub front_fault : FrontFault → Option plain.KitFault
front_fault Read = None
front_fault (Kit fault) = fault_of fault

-- why no line was taken
abbrev pub of_input : InputFault → FrontFault
of_input inputs.Read = Read
of_input inputs.NoMemory = Kit faults.NoMemory

abbrev pub of_kit : KitFault → FrontFault
of_kit fault = Kit fault

-- ---- what was read, by what the source had left before and has left now, and by what was ahead before

-- a line of a kit was taken
pub record LineTaken (before now : Option (List ℕ)) (ahead : List ℕ) (l : Taken) : Type 0 where
  pub bytes : List ℕ
  pub read : ReadOn before now ahead bytes
  pub line : line_within most_line_bytes bytes ≡ Some (l.line, l.ahead)

-- no line of a kit comes next, whatever the source has left
pub record NoLine (before now : Option (List ℕ)) (ahead : List ℕ) : Type 0 where
  pub bytes : List ℕ
  pub read : ReadOn before now ahead bytes
  pub none : line_within most_line_bytes bytes ≡ None
  pub last : (most_line_bytes < length bytes) ⊎ IsAtEnd now

-- the input begins with the kit and the line `go` of this number, and these bytes of it are ahead now
pub record Begins (before now : Option (List ℕ)) (ahead : List ℕ) (kit : plain_kits.Kit) (go : ℕ) (left : List ℕ) : Type 0 where
  pub bytes : List ℕ
  pub read : ReadOn before now ahead bytes
  pub is : front_of bytes ≡ Ok (record { kit = kit; line = go + 1; rest = left })

-- the input has this fault, whatever the source has left, or as it has nothing left
pub record HasFault (before now : Option (List ℕ)) (ahead : List ℕ) (fault : plain.KitFault) : Type 0 where
  pub bytes : List ℕ
  pub read : ReadOn before now ahead bytes
  pub is : ((more : List ℕ) → front_of (bytes ++ more) ≡ Err fault) ⊎ (IsAtEnd now × (front_of bytes ≡ Err fault))
